-- One step of a worker: one line for each rule.
use Rattle.std.proofs.Common.{◌≡◌, ℕ, ◌^◌, [], ◌∷◌, ◌++◌, ap, subst, sym, ◌∙◌, inl, inr}
use Rattle.std.proofs.lemmas.Bool.{cases_eq}
use Rattle.std.proofs.Math.Path.{fun_ext}
use Rattle.std.specs.Int.{bit_at}
use Rattle.std.specs.Int.Bits.{bit_or}
use Rattle.sg_words.specs.Words.{put, Words, Saw, after_step}
use Rattle.sg_words.proofs.Puts.{put-at, put-other}
use Rattle.sg_words.proofs.Blocks.{bit_again}
use Rattle.sg_words.specs.declared.steps.Step.{Step}
use Rattle.sg_round.specs.Worker.{Room, Mark, Worker, on}
use Rattle.sg_round.specs.Area.{Area}
use Rattle.sg_round.specs.Rules.{Effect, Nothing, Comes}
use Rattle.sg_round.specs.Rules.Comes.{opens, counts, sees_none, sees, looks_forwarded, looks_fixed, looks_bare, looks_plain, has_spare, has_none, finds_free}
use Rattle.sg_round.specs.Rules.Comes.{finds_swept, finds_other, takes, takes_not}
use Rattle.sg_round.specs.Rules.Comes.{finds_clear, finds_full, marks, marks_not, reads, writes, clears, heads, forwards, loses, fails, fails_bare, fails_not}
use Rattle.sg_round.specs.Rules.Comes.{sends, dirties}
use Rattle.sg_round.specs.Rules.Comes.{keeps, prepares, offers, offers_not, seeks, ends, finds, grabs, grabs_not}
use Rattle.sg_round.specs.Round.{Start, Round}
use Rattle.sg_round.proofs.Relation.{IsStill, Kept}
use Rattle.sg_round.proofs.Moves.{Before}
use Rattle.sg_round.proofs.Looks.{opened, counted, none-seen, seen, forwarded-seen, fixed-seen, bare-seen, plain-seen, spare-taken}
use Rattle.sg_round.proofs.Rooms.{none-spare, free-seen, swept-seen, other-seen, block-taken, take-missed, clear-seen, full-seen, slot-marked, mark-missed}
use Rattle.sg_round.proofs.Bodies.{word-read, word-written, zero-written, head-written, slot-sent, card-marked}
use Rattle.sg_round.proofs.Swaps.{swap-won, swap-lost, fail-won, fail-won-bare, fail-lost}
use Rattle.sg_round.proofs.Cells.{cell-kept, offer-prepared, offered, offer-lost, seeks-on, ended-search, item-found, item-taken, take-lost}

-- a bit that is set again changes nothing
set-again : (used : ℕ → ℕ) (b i : ℕ) → bit_at (used b) i ≡ 1 → put used b (bit_or (used b) (2 ^ i)) ≡ used
set-again used b i e = fun_ext (λ d. elim (cases_eq d b) [
  | inl h ↦ put-at used b (bit_or (used b) (2 ^ i)) d h ∙ bit_again (used b) i e ∙ ap used (sym h)
  | inr h ↦ put-other used b (bit_or (used b) (2 ^ i)) d h
])

module _ {t : Start} {others : ℕ → Type 0} {k : ℕ} {v : Words} {r : Round} where
  pub kept : (a : Worker) (e : Step) (effect : Effect) (b : Worker) → Comes t.area t.team k a e effect b → Saw v e → Before t others k v r a →
      Kept t others k v r a effect (after_step v e) b
  kept _ _ _ _ (opens a b x u nx) saw n = opened a b x u nx saw n
  kept _ _ _ _ (counts a x class u l) saw n = counted a x class u saw n
  kept _ _ _ _ (sees_none a b s u nx none) saw n = none-seen a b s u nx none saw n
  kept _ _ _ _ (sees a b s x nx young) saw n = seen a b s x nx young saw n
  kept _ _ _ _ (looks_forwarded a s x to) saw n = forwarded-seen a s x to saw n
  kept _ _ _ _ (looks_fixed a s x class u fixed card) saw n = fixed-seen a s x class u fixed card saw n
  kept _ _ _ _ (looks_bare a s x class u fixed bare) saw n = bare-seen a s x class u fixed bare saw n
  kept _ _ _ _ (looks_plain a s x class) saw n = plain-seen a s x class saw n
  kept _ _ _ _ (has_spare a s o some) saw n = spare-taken a s o some saw n
  kept _ _ _ _ (has_none a s o none) saw n = none-spare a s o none saw n
  kept _ _ _ _ (finds_free a s o b) saw n = free-seen a s o b n
  kept _ _ _ _ (finds_swept a s o b) saw n = swept-seen a s o b saw n
  kept _ _ _ _ (finds_other a s o b state some other) saw n = other-seen a s o b state some other saw n
  kept _ _ _ _ (takes a s o b) saw n = block-taken a s o b saw n
  kept _ _ _ _ (takes_not a s o b found) saw n = take-missed a s o b n
  kept _ _ _ _ (finds_clear a s o b i u l clear set) saw n = clear-seen a s o b i l n
  kept _ _ _ _ (finds_full a s o b u set) saw n = full-seen a s o b u set saw n
  kept _ _ _ _ (marks a s o b i u clear) saw n = slot-marked a s o b i u clear saw n
  kept _ _ _ _ (marks_not a s o b i u set) saw n =
      subst (λ (used : ℕ → ℕ). Kept t others k v r (on a s (Mark o b i)) Nothing (record v { used = used }) (on a s (Room o b)))
      (sym (set-again v.used b i (ap (λ (w : ℕ). bit_at w i) saw ∙ set))) (mark-missed a s o b i n)
  kept _ _ _ _ (reads a s o at j u less) saw n = word-read a s o at j u less saw n
  kept _ _ _ _ (writes a s o at j u) saw n = word-written a s o at j u n
  kept _ _ _ _ (clears a s o at j past less) saw n = zero-written a s o at j past less n
  kept _ _ _ _ (heads a s o at j past) saw n = head-written a s o at j past n
  kept _ _ _ _ (forwards a s o at) saw n = swap-won a s o at saw n
  kept _ _ _ _ (loses a s o at found) saw n = swap-lost a s o at n
  kept _ _ _ _ (fails a s o card) saw n = fail-won a s o card saw n
  kept _ _ _ _ (fails_bare a s o bare) saw n = fail-won-bare a s o bare saw n
  kept _ _ _ _ (fails_not a s o found) saw n = fail-lost a s o n
  kept _ _ _ _ (sends a s to) saw n = slot-sent a s to n
  kept _ _ _ _ (dirties a s) saw n = card-marked a s n
  kept _ _ _ _ (keeps a items item i u several l may e some) saw n = cell-kept a n
  kept _ _ _ _ (prepares a items item i several l may e) saw n = offer-prepared a items item i l may e saw n
  kept _ _ _ _ (offers a items item i next) saw n = offered a items item i next saw n
  kept _ _ _ _ (offers_not a items item i next found) saw n = offer-lost (record a { list = items ++ item ∷ [] }) i next n
  kept _ _ _ _ (seeks a i is more) saw n = seeks-on a i is more saw n
  kept _ _ _ _ (ends a i is last) saw n = ended-search a i is last saw n
  kept _ _ _ _ (finds a i item is) saw n = item-found a i item is saw n
  kept _ _ _ _ (grabs a i item) saw n = item-taken a i item saw n
  kept _ _ _ _ (grabs_not a i item found) saw n = take-lost a i item n

-- no step changes the other sections
pub still : (area : Area) (team k : ℕ) (w v : Words) (a : Worker) (e : Step) (effect : Effect) (b : Worker) → Comes area team k a e effect b → IsStill w v →
    IsStill w (after_step v e)
still area team k w v _ _ _ _ (opens a b x u nx) q = q
still area team k w v _ _ _ _ (counts a x class u l) q = q
still area team k w v _ _ _ _ (sees_none a b s u nx none) q = q
still area team k w v _ _ _ _ (sees a b s x nx young) q = q
still area team k w v _ _ _ _ (looks_forwarded a s x to) q = q
still area team k w v _ _ _ _ (looks_fixed a s x class u fixed card) q = q
still area team k w v _ _ _ _ (looks_bare a s x class u fixed bare) q = q
still area team k w v _ _ _ _ (looks_plain a s x class) q = q
still area team k w v _ _ _ _ (has_spare a s o some) q = q
still area team k w v _ _ _ _ (has_none a s o none) q = q
still area team k w v _ _ _ _ (finds_free a s o b) q = q
still area team k w v _ _ _ _ (finds_swept a s o b) q = q
still area team k w v _ _ _ _ (finds_other a s o b state some other) q = q
still area team k w v _ _ _ _ (takes a s o b) q = q
still area team k w v _ _ _ _ (takes_not a s o b found) q = q
still area team k w v _ _ _ _ (finds_clear a s o b i u l clear set) q = q
still area team k w v _ _ _ _ (finds_full a s o b u set) q = q
still area team k w v _ _ _ _ (marks a s o b i u clear) q = q
still area team k w v _ _ _ _ (marks_not a s o b i u set) q = q
still area team k w v _ _ _ _ (reads a s o at j u less) q = q
still area team k w v _ _ _ _ (writes a s o at j u) q = q
still area team k w v _ _ _ _ (clears a s o at j past less) q = q
still area team k w v _ _ _ _ (heads a s o at j past) q = q
still area team k w v _ _ _ _ (forwards a s o at) q = q
still area team k w v _ _ _ _ (loses a s o at found) q = q
still area team k w v _ _ _ _ (fails a s o card) q = q
still area team k w v _ _ _ _ (fails_bare a s o bare) q = q
still area team k w v _ _ _ _ (fails_not a s o found) q = q
still area team k w v _ _ _ _ (sends a s to) q = q
still area team k w v _ _ _ _ (dirties a s) q = q
still area team k w v _ _ _ _ (keeps a items item i u several l may e some) q = q
still area team k w v _ _ _ _ (prepares a items item i several l may e) q = q
still area team k w v _ _ _ _ (offers a items item i next) q = q
still area team k w v _ _ _ _ (offers_not a items item i next found) q = q
still area team k w v _ _ _ _ (seeks a i is more) q = q
still area team k w v _ _ _ _ (ends a i is last) q = q
still area team k w v _ _ _ _ (finds a i item is) q = q
still area team k w v _ _ _ _ (grabs a i item) q = q
still area team k w v _ _ _ _ (grabs_not a i item found) q = q
