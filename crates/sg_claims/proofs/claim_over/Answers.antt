use Rattle.std.proofs.Common.{◌≡◌, List, length}
use Rattle.sg_words.specs.Words.{Saw}
use Rattle.sg_words.specs.declared.steps.Step.{Step}
use Rattle.sg_space.specs.Space.{words_of}
use Rattle.sg_frag.specs.Plain.{Led}
use Rattle.sg_frag.specs.declared.plain.PlainPort.{PlainPort}
use Rattle.sg_claims.proofs.Growing.{may_claim, shows_growing, claims_over, claims_same}
use Rattle.sg_claims.proofs.claim_over.Goals as goal

-- what the port says of its steps
abbrev leads : PlainPort → List Step → PlainPort → Type 0
leads p es q = (q.space.ghost_name ≡ p.space.ghost_name) × Led p.space.now es q.space.now

abbrev sees : PlainPort → Step → Type 0
sees p t = Saw (words_of p.space.now) t

pub claim_slot-requires-clause-may : goal.claim_slot-requires-clause-may
claim_slot-requires-clause-may c = λ es q t of made is.
    may_claim leads sees (λ p. p.space.now) (λ p q es h. h.1) (λ p t h. h) c.args.size c.args.port.now c.requires.class c.requires.whole es q t made is

pub claim_slot-requires-clause-shows : goal.claim_slot-requires-clause-shows
claim_slot-requires-clause-shows c = (
  λ p. words_of p.space.now,
  shows_growing leads sees (λ p. p.space.now) (λ p q es h. h.1) (λ p t h. h) c.args.size (length c.args.port.now.space.now.blocks),
  c.requires.settled,
)

pub returns-clause-same : goal.returns-clause-same
returns-clause-same c =
    claims_same leads sees (λ p. p.space.now) (λ p q es h. h.1) (λ p t h. h) (λ p. p.space.ghost_name) (λ p q es h. h.0) c.args.size
    (length c.args.port.now.space.now.blocks) c.args.port.now c.claim_slot.new.port c.claim_slot.result c.claim_slot.ensures

pub returns-clause-claims : goal.returns-clause-claims
returns-clause-claims c =
    claims_over leads sees (λ p. p.space.now) (λ p q es h. h.1) (λ p t h. h) c.args.size (length c.args.port.now.space.now.blocks) c.args.port.now
    c.claim_slot.new.port c.claim_slot.result c.claim_slot.ensures
