use Rattle.std.proofs.Common.{◌≡◌, ℕ, ◌+◌, ◌<◌, ◌≤◌, max, sym, ap, ◌∙◌, subst, arith}
use Rattle.sg_words.specs.Address.{word_at}
use Rattle.sg_words.proofs.Numbers.{word_at-byte_at}
use Rattle.sg_program.specs.Scripts.{made_words}
use Rattle.sg_rules.specs.Rules.{Actor, Claim, StoreLength, within, owning, taken, looking}
use Rattle.sg_rules.specs.Acting.{RestsAt}
use Rattle.sg_actor.specs.declared.mutator.Stage.{Stage}
use Rattle.sg_actor.specs.State.{Mutating, actor_of}
use Rattle.sg_actor.proofs.Ports.{Ports}
use Rattle.sg_actor.proofs.Turnings.{on_as, gone_as, midst}
use Rattle.sg_actor.proofs.Exchanges.{claiming_sane, exchange_may, won_on, won_turn, moved_turn, behind_on, behind_turn}
use Rattle.sg_rules.specs.Rules.{Idle}
use Rattle.sg_actor.specs.State.{mid_of}
use Rattle.sg_actor.proofs.Exchanges.{ends_at}
use Rattle.sg_actor.proofs.Starts.{rests_at}
use Rattle.sg_actor.proofs.mutator.Mutator.go_on.Given.{Over}
use Rattle.sg_actor.proofs.mutator.Mutator.go_on.Goals as goal

abbrev ports : (g : Over) → Ports g.row.P.Denot
ports g = record {
  leads = g.P.Port.leads;
  may = g.P.Port.may;
  sees = g.P.Port.sees;
  fragments = g.P.FragPort.fragments;
  limit = g.P.FragPort.limit;
  stays = g.P.Port.stays;
  chains = g.P.Port.chains;
  fixed = g.met.P.FragPort.fixed;
  blocks = g.P.BlockPort.blocks;
  heap = g.P.SweepPort.heap;
  marks = g.P.SweepPort.marks;
  fixed_blocks = g.met.P.BlockPort.fixed_blocks;
  fixed_sweep = g.met.P.SweepPort.fixed_sweep;
}

pub claim-requires-clause-may : goal.claim-requires-clause-may
claim-requires-clause-may g c =
    let o = ports g in
    let m = c.args.self.now in
    let p = m.program in
    let a = actor_of m in
    let s = c.args.making.statement in
    let f = c.args.fragment in
    let next = c.args.next in
    let x = c.args.port.now in
    let n = c.resume.new.self in
    let lay = c.requires.on.0 in
    let on = c.requires.on.1 in
    let words : c.words-words.result ≡ made_words p s = c.words-words.ensures ∙ ap (λ k. k + 2) c.requires.made.fields_are in
    let limit : o.limit x f ≡ lay.limit f = ap (λ (h : ℕ → ℕ). h f) on.limits_are in
    let want : c.max-want.result ≡ max (made_words p s) p.config.buffer =
    c.max-want.ensures ∙ ap (λ k. max k c.self.inside.program.now.config.buffer) words ∙ ap (λ (v : Mutating). max (made_words p s) v.program.config.buffer) c.self.view_is in
    let e = ends_at o m lay s f next c.requires.stage x on (o.limit x f) c.max-want.result limit want in
    exchange_may o m lay s f next c.requires.stage x on _ e

pub finish-requires-clause-on : goal.finish-requires-clause-on
finish-requires-clause-on g c =
    let o = ports g in
    let m = c.args.self.now in
    let p = m.program in
    let a = actor_of m in
    let s = c.args.making.statement in
    let f = c.args.fragment in
    let next = c.args.next in
    let x = c.args.port.now in
    let n = c.resume.new.self in
    let lay = c.requires.on.0 in
    let on = c.requires.on.1 in
    let words : c.words-words.result ≡ made_words p s = c.words-words.ensures ∙ ap (λ k. k + 2) c.requires.made.fields_are in
    let limit : o.limit x f ≡ lay.limit f = ap (λ (h : ℕ → ℕ). h f) on.limits_are in
    let want : c.max-want.result ≡ max (made_words p s) p.config.buffer =
    c.max-want.ensures ∙ ap (λ k. max k c.self.inside.program.now.config.buffer) words ∙ ap (λ (v : Mutating). max (made_words p s) v.program.config.buffer) c.self.view_is in
    let e = ends_at o m lay s f next c.requires.stage x on (o.limit x f) c.max-want.result limit want in
    let won = c.in-Got.ensures in
    let y = c.claim.new.port in
    let k = c.buffer.new.self in
    let program = c.buffer.ensures.same.program ∙ c.resume.ensures.same.program in
    let took = taken p lay f next (made_words p s) in
    let start : c.word.result ≡ next = c.word.ensures.value ∙ ap word_at won.0 ∙ word_at-byte_at next in
    let at : c.word-in-Got-2.result ≡ next = c.word-in-Got-2.ensures.value ∙ ap word_at won.0 ∙ word_at-byte_at next in
    let stop : c.word-in-Got.result ≡ next + took = c.word-in-Got.ensures.value ∙ ap word_at (won.1 ∙ e) ∙ word_at-byte_at (next + took) in
    let owner = within (owning a (next + made_words p s) (next + took)) m.script (StoreLength s next) in
    let same : within (actor_of k) k.script (StoreLength s c.word-in-Got-2.result) ≡ owner =
    midst k (owning (within a m.script Idle) (c.word.result + c.words-words.result) c.word-in-Got.result) (StoreLength s c.word-in-Got-2.result)
    (c.buffer.ensures.actor ∙ ap (λ (v : Actor). owning v (c.word.result + c.words-words.result) c.word-in-Got.result) c.resume.ensures.actor)
    ∙ ap (λ v. within (owning a (v + c.words-words.result) c.word-in-Got.result) m.script (StoreLength s c.word-in-Got-2.result)) start
    ∙ ap (λ v. within (owning a (next + v) c.word-in-Got.result) m.script (StoreLength s c.word-in-Got-2.result)) words
    ∙ ap (λ v. within (owning a (next + made_words p s) v) m.script (StoreLength s c.word-in-Got-2.result)) stop
    ∙ ap (λ v. within (owning a (next + made_words p s) (next + took)) m.script (StoreLength s v)) at in
    let here = on_as o lay p k.program program owner (within (actor_of k) k.script (StoreLength s c.word-in-Got-2.result)) same y (won_on o m lay s f next c.requires.stage x on y _ e (won.3, won.2)) in
    (lay, here)

pub seek-requires-clause-on : goal.seek-requires-clause-on
seek-requires-clause-on g c =
    let o = ports g in
    let m = c.args.self.now in
    let p = m.program in
    let a = actor_of m in
    let s = c.args.making.statement in
    let f = c.args.fragment in
    let next = c.args.next in
    let x = c.args.port.now in
    let n = c.resume.new.self in
    let lay = c.requires.on.0 in
    let on = c.requires.on.1 in
    let words : c.words-words.result ≡ made_words p s = c.words-words.ensures ∙ ap (λ k. k + 2) c.requires.made.fields_are in
    let limit : o.limit x f ≡ lay.limit f = ap (λ (h : ℕ → ℕ). h f) on.limits_are in
    let want : c.max-want.result ≡ max (made_words p s) p.config.buffer =
    c.max-want.ensures ∙ ap (λ k. max k c.self.inside.program.now.config.buffer) words ∙ ap (λ (v : Mutating). max (made_words p s) v.program.config.buffer) c.self.view_is in
    let e = ends_at o m lay s f next c.requires.stage x on (o.limit x f) c.max-want.result limit want in
    let lost = c.in-Small.ensures in
    let y = c.claim.new.port in
    let found = lost.0 in
    let short : lay.limit f < word_at found + made_words p s = let few : o.limit x f < word_at found + c.words-words.result = lost.1.0 in omega (arith, few, limit, words) in
    let behind = within a m.script (looking lay s (f + 1)) in
    let same : within (actor_of n) n.script (looking lay s (f + 1)) ≡ behind = midst n (within a m.script Idle) (looking lay s (f + 1)) c.resume.ensures.actor in
    let here = on_as o lay p n.program c.resume.ensures.same.program behind (within (actor_of n) n.script (looking lay s (f + 1))) same y
    (behind_on o m lay s f next c.requires.stage x on y _ found e (lost.3, lost.2) short) in
    let there : f < lay.fragments = (claiming_sane o m lay s f next c.requires.stage x on).there in
    (lay, omega (arith, there), here)

pub returns-in-Got-clause-turned : goal.returns-in-Got-clause-turned
returns-in-Got-clause-turned g c lay on =
    let o = ports g in
    let m = c.args.self.now in
    let p = m.program in
    let a = actor_of m in
    let s = c.args.making.statement in
    let f = c.args.fragment in
    let next = c.args.next in
    let x = c.args.port.now in
    let n = c.resume.new.self in
    let words : c.words-words.result ≡ made_words p s = c.words-words.ensures ∙ ap (λ k. k + 2) c.requires.made.fields_are in
    let limit : o.limit x f ≡ lay.limit f = ap (λ (h : ℕ → ℕ). h f) on.limits_are in
    let want : c.max-want.result ≡ max (made_words p s) p.config.buffer =
    c.max-want.ensures ∙ ap (λ k. max k c.self.inside.program.now.config.buffer) words ∙ ap (λ (v : Mutating). max (made_words p s) v.program.config.buffer) c.self.view_is in
    let e = ends_at o m lay s f next c.requires.stage x on (o.limit x f) c.max-want.result limit want in
    let won = c.in-Got.ensures in
    let y = c.claim.new.port in
    let k = c.buffer.new.self in
    let program = c.buffer.ensures.same.program ∙ c.resume.ensures.same.program in
    let took = taken p lay f next (made_words p s) in
    let start : c.word.result ≡ next = c.word.ensures.value ∙ ap word_at won.0 ∙ word_at-byte_at next in
    let at : c.word-in-Got-2.result ≡ next = c.word-in-Got-2.ensures.value ∙ ap word_at won.0 ∙ word_at-byte_at next in
    let stop : c.word-in-Got.result ≡ next + took = c.word-in-Got.ensures.value ∙ ap word_at (won.1 ∙ e) ∙ word_at-byte_at (next + took) in
    let owner = within (owning a (next + made_words p s) (next + took)) m.script (StoreLength s next) in
    let same : within (actor_of k) k.script (StoreLength s c.word-in-Got-2.result) ≡ owner =
    midst k (owning (within a m.script Idle) (c.word.result + c.words-words.result) c.word-in-Got.result) (StoreLength s c.word-in-Got-2.result)
    (c.buffer.ensures.actor ∙ ap (λ (v : Actor). owning v (c.word.result + c.words-words.result) c.word-in-Got.result) c.resume.ensures.actor)
    ∙ ap (λ v. within (owning a (v + c.words-words.result) c.word-in-Got.result) m.script (StoreLength s c.word-in-Got-2.result)) start
    ∙ ap (λ v. within (owning a (next + v) c.word-in-Got.result) m.script (StoreLength s c.word-in-Got-2.result)) words
    ∙ ap (λ v. within (owning a (next + made_words p s) v) m.script (StoreLength s c.word-in-Got-2.result)) stop
    ∙ ap (λ v. within (owning a (next + made_words p s) (next + took)) m.script (StoreLength s v)) at in
    let here = on_as o lay p k.program program owner (within (actor_of k) k.script (StoreLength s c.word-in-Got-2.result)) same y (won_on o m lay s f next c.requires.stage x on y _ e (won.3, won.2)) in
    let k' = c.finish.new.self in
    won_turn o m lay s f next c.requires.stage x on y _ e (won.3, won.2) (actor_of k') c.finish.new.port
    (gone_as o lay p k.program program owner (within (actor_of k) k.script (StoreLength s c.word-in-Got-2.result)) same y c.finish.new.port (actor_of k') (c.finish.ensures.goes lay here))
    (subst (λ (stage : Stage). RestsAt (mid_of stage)) (sym c.finish.ensures.stage) tt)

pub returns-in-Moved-clause-turned : goal.returns-in-Moved-clause-turned
returns-in-Moved-clause-turned g c lay on =
    let o = ports g in
    let m = c.args.self.now in
    let p = m.program in
    let a = actor_of m in
    let s = c.args.making.statement in
    let f = c.args.fragment in
    let next = c.args.next in
    let x = c.args.port.now in
    let n = c.resume.new.self in
    let words : c.words-words.result ≡ made_words p s = c.words-words.ensures ∙ ap (λ k. k + 2) c.requires.made.fields_are in
    let limit : o.limit x f ≡ lay.limit f = ap (λ (h : ℕ → ℕ). h f) on.limits_are in
    let want : c.max-want.result ≡ max (made_words p s) p.config.buffer =
    c.max-want.ensures ∙ ap (λ k. max k c.self.inside.program.now.config.buffer) words ∙ ap (λ (v : Mutating). max (made_words p s) v.program.config.buffer) c.self.view_is in
    let e = ends_at o m lay s f next c.requires.stage x on (o.limit x f) c.max-want.result limit want in
    let lost = c.in-Moved.ensures in
    let found = c.in-Moved.next in
    let room : word_at found + made_words p s ≤ lay.limit f = let enough : word_at found + c.words-words.result ≤ o.limit x f = lost.0 in omega (arith, enough, limit, words) in
    moved_turn o m lay s f next c.requires.stage x on c.claim.new.port _ found e (lost.2, lost.1) room (actor_of c.prepare.new.self)
    (c.prepare.ensures.actor ∙ midst n (within a m.script Idle) (Claim s f (word_at found)) c.resume.ensures.actor)

pub returns-in-Small-clause-turned : goal.returns-in-Small-clause-turned
returns-in-Small-clause-turned g c lay on =
    let o = ports g in
    let m = c.args.self.now in
    let p = m.program in
    let a = actor_of m in
    let s = c.args.making.statement in
    let f = c.args.fragment in
    let next = c.args.next in
    let x = c.args.port.now in
    let n = c.resume.new.self in
    let words : c.words-words.result ≡ made_words p s = c.words-words.ensures ∙ ap (λ k. k + 2) c.requires.made.fields_are in
    let limit : o.limit x f ≡ lay.limit f = ap (λ (h : ℕ → ℕ). h f) on.limits_are in
    let want : c.max-want.result ≡ max (made_words p s) p.config.buffer =
    c.max-want.ensures ∙ ap (λ k. max k c.self.inside.program.now.config.buffer) words ∙ ap (λ (v : Mutating). max (made_words p s) v.program.config.buffer) c.self.view_is in
    let e = ends_at o m lay s f next c.requires.stage x on (o.limit x f) c.max-want.result limit want in
    let lost = c.in-Small.ensures in
    let y = c.claim.new.port in
    let found = lost.0 in
    let short : lay.limit f < word_at found + made_words p s = let few : o.limit x f < word_at found + c.words-words.result = lost.1.0 in omega (arith, few, limit, words) in
    let behind = within a m.script (looking lay s (f + 1)) in
    let same : within (actor_of n) n.script (looking lay s (f + 1)) ≡ behind = midst n (within a m.script Idle) (looking lay s (f + 1)) c.resume.ensures.actor in
    let here = on_as o lay p n.program c.resume.ensures.same.program behind (within (actor_of n) n.script (looking lay s (f + 1))) same y
    (behind_on o m lay s f next c.requires.stage x on y _ found e (lost.3, lost.2) short) in
    let there : f < lay.fragments = (claiming_sane o m lay s f next c.requires.stage x on).there in
    let k = c.seek.new.self in
    behind_turn o m lay s f next c.requires.stage x on y _ found e (lost.3, lost.2) short (actor_of k) c.seek.new.port
    (gone_as o lay p n.program c.resume.ensures.same.program behind (within (actor_of n) n.script (looking lay s (f + 1))) same y c.seek.new.port (actor_of k) (c.seek.ensures.goes lay here))
    (rests_at n.program k.stage c.seek.ensures.behind.rests)
