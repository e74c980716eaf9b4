-- The store of a reference and the mark of its slot's card, over any port.
use Rattle.std.proofs.Common.{◌≡◌, ℕ, ◌+◌, ◌⊎◌, true, false, refl, sym, ap, subst, inl, inr, arith}
use Rattle.std.proofs.lemmas.Bool.{cases_lt}
use Rattle.sg_words.specs.Blocks.{card_of, HasCard}
use Rattle.sg_words.specs.Sections.{old_base, globals_base}
use Rattle.sg_words.specs.declared.layout.Layout.{Layout}
use Rattle.sg_words.specs.declared.steps.Place.TheVariants.{Word, Card}
use Rattle.sg_words.specs.declared.steps.Step.TheVariants.{Store}
use Rattle.sg_words.specs.declared.steps.Call.TheVariants.{Stores}
use Rattle.sg_program.specs.declared.program.Statement.TheVariants.{Put}
use Rattle.sg_program.specs.declared.answers.Answer.TheVariants.{Fine}
use Rattle.sg_rules.specs.Rules.{Constants, Access, MarkCard, Actor, sections_of, object_in, within, over}
use Rattle.sg_rules.specs.Rules.Comes.{put_stores, put_stores_old, marks_card}
use Rattle.sg_actor.specs.State.{Mutating, actor_of}
use Rattle.sg_actor.proofs.Ports.{Ports, On, Gone, Did, none_yet, stores_may, stores_done}

-- a word has a card or it hasn't
has_one : (layout : Layout) (x : ℕ) → HasCard layout x ⊎ (¬ HasCard layout x)
has_one layout x = elim (cases_lt x (old_base layout)) [
  | inl below ↦ inr (λ h. let l = h.0 in omega arith)
  | inr from ↦ elim (cases_lt x (globals_base layout)) [
    | inl to ↦ inl (from, to)
    | inr past ↦ inr (λ h. let l = h.1 in omega arith)
  ]
]

module _ {P : Type 0} (o : Ports P) (m : Mutating) (lay : Constants) (r i v : ℕ) (x : P)
    (on : On o m.program lay x (within (actor_of m) m.script (Access (Put r i v)))) (place w : ℕ) (e : place ≡ object_in (actor_of m) r + 2 + i)
    (is : w ≡ (actor_of m).reg v) where
  abbrev there : Actor
  there = within (actor_of m) m.script (Access (Put r i v))

  abbrev slot : ℕ
  slot = object_in (actor_of m) r + 2 + i

  abbrev done : Actor
  done = over (actor_of m) m.script (actor_of m).reg Fine

  -- right before the mark of the slot's card
  abbrev pub halfway : Actor
  halfway = within (actor_of m) m.script (MarkCard (Put r i v) (card_of (sections_of m.program) (object_in (actor_of m) r + 2 + i)))

  start : Gone o m.program lay there x there x
  start = none_yet o m.program lay there x on

  pub put_may : o.may x (Stores (Word place) w)
  put_may = elim (has_one (sections_of m.program) slot) [
    | inl has ↦ stores_may o m.program lay there there x x on start (Word slot) (Word place) (ap (λ k. Word k) e) true halfway ((actor_of m).reg v) w is
        (put_stores_old (actor_of m) m.script r i v has)
    | inr none ↦ stores_may o m.program lay there there x x on start (Word slot) (Word place) (ap (λ k. Word k) e) true done ((actor_of m).reg v) w is
        (put_stores (actor_of m) m.script r i v none)
  ]

  -- the slot has no card
  pub put_done : ¬ HasCard (sections_of m.program) place → (y : P) (b : Actor) → b ≡ over (actor_of m) m.script (actor_of m).reg Fine →
      Did o m.program lay x (Store (Word place) w) y → Gone o m.program lay there x b y
  put_done none y b same did =
      stores_done o m.program lay there there x x on start (Word slot) (Word place) (ap (λ k. Word k) e) true done ((actor_of m).reg v) w is
      (put_stores (actor_of m) m.script r i v (λ has. none (subst (HasCard (sections_of m.program)) (sym e) has))) y b (λ r. r) same did

  -- it has one
  pub put_begun : HasCard (sections_of m.program) place → (y : P) → Did o m.program lay x (Store (Word place) w) y → Gone o m.program lay there x halfway y
  put_begun has y did =
      stores_done o m.program lay there there x x on start (Word slot) (Word place) (ap (λ k. Word k) e) true halfway ((actor_of m).reg v) w is
      (put_stores_old (actor_of m) m.script r i v (subst (HasCard (sections_of m.program)) e has)) y halfway (λ r. r) refl did

  -- the card is marked next
  module _ (y : P) (gone : Gone o m.program lay there x halfway y) (card : ℕ) (its : card ≡ card_of (sections_of m.program) place) where
    abbrev marked : ℕ
    marked = card_of (sections_of m.program) slot

    card_is : card ≡ marked
    card_is = subst (λ k. card ≡ card_of (sections_of m.program) k) e its

    pub mark_may : o.may y (Stores (Card card) 1)
    mark_may = stores_may o m.program lay there halfway x y on gone (Card marked) (Card card) (ap (λ k. Card k) card_is) false done 1 1 refl
        (marks_card (actor_of m) m.script (Put r i v) marked)

    pub mark_done : (z : P) (b : Actor) → b ≡ over (actor_of m) m.script (actor_of m).reg Fine → Did o m.program lay y (Store (Card card) 1) z →
        Gone o m.program lay there x b z
    mark_done z b same did =
        stores_done o m.program lay there halfway x y on gone (Card marked) (Card card) (ap (λ k. Card k) card_is) false done 1 1 refl
        (marks_card (actor_of m) m.script (Put r i v) marked) z b (λ r. r) same did
