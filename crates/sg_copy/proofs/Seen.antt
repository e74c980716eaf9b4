-- What a worker can see, by where it stands: each step that has a rule says so.
use Rattle.std.proofs.Common.{◌≡◌, ℕ, ◌≤◌, ◌⊎◌, List, [], ◌∷◌, ◌++◌, inl, inr, refl, sym, ◌∙◌, subst}
use Rattle.sg_words.specs.Address.{byte_at}
use Rattle.sg_words.specs.Tags.{plain_word, forward_word}
use Rattle.sg_words.specs.declared.steps.Place.TheVariants.{Word, Cell}
use Rattle.sg_words.specs.declared.steps.Step.{Step}
use Rattle.sg_words.specs.declared.steps.Step.TheVariants.{Load}
use Rattle.sg_round.specs.Area.{Area, IsFixed}
use Rattle.sg_round.specs.Items.{Item, SlotOf, WholeOf, cell_word, own_cell, looked_cell}
use Rattle.sg_round.specs.Worker.{Worker, Mid, Idle, Seek, Count, On, Look, Send, Dirty}
use Rattle.sg_round.specs.Rules.{Effect, Comes, IsNext, Of_hand, Of_list, Of_cell, MayOffer, IsLooking}
use Rattle.sg_round.specs.Rules.Comes.{opens, counts, sees_none, sees, looks_forwarded, looks_fixed, looks_bare, looks_plain, has_spare, has_none}
use Rattle.sg_round.specs.Rules.Comes.{finds_free, finds_swept, finds_other, takes, takes_not, finds_clear, finds_full, marks, marks_not, reads}
use Rattle.sg_round.specs.Rules.Comes.{writes, clears, heads, forwards, loses, fails as has_failed, fails_bare, fails_not, sends, dirties, keeps}
use Rattle.sg_round.specs.Rules.Comes.{prepares, offers, offers_not, seeks, ends, finds, grabs, grabs_not}

-- an offer cell holds nothing, or an item
abbrev pub HoldsItem : ℕ → Type 0
HoldsItem v = (v ≡ 0) ⊎ ((item : Item) × (v ≡ cell_word item))

-- the first word of a young object is a forwarding word, or that of an object which stays, or a plain one
abbrev pub IsFirst : ℕ → Type 0
IsFirst v = ((t : ℕ) × (v ≡ forward_word (byte_at t))) ⊎ (((class : ℕ) × IsFixed class v) ⊎ ((class : ℕ) × (v ≡ plain_word class)))

abbrev pub SawAt : List Item → Mid → Step → Type 0
SawAt list (Count t class) (Load place v) = v ≤ 62
SawAt list (On s (Look x)) (Load place v) = IsFirst v
SawAt list (Seek i) (Load (Cell c) v) = HoldsItem v
SawAt list Idle (Load (Cell c) v) = list ≡ [] → HoldsItem v
SawAt list mid step = Unit {0}

some_list : (items : List Item) (item : Item) → items ++ item ∷ [] ≡ [] → ⊥
some_list [] item e = cc
some_list (x ∷ items) item e = cc

-- a worker that may offer an item looks at a cell for that
offering : (list : List Item) (mid : Mid) (c v : ℕ) → MayOffer mid → (list ≡ [] → ⊥) → SawAt list mid (Load (Cell c) v)
offering list Idle c v may some = λ none. absurd (some none)
offering list (On s (Send t)) c v may some = tt
offering list (On s Dirty) c v may some = tt
offering list mid c v may some = absurd may

looking : (a : Worker) (i c v : ℕ) → IsLooking a i → HoldsItem v → SawAt a.list a.mid (Load (Cell c) v)
looking a i c v is holds = elim is.at [
  | inl e ↦ subst (λ (mid : Mid). SawAt a.list mid (Load (Cell c) v)) (sym e.0) (λ none. holds)
  | inr e ↦ subst (λ (mid : Mid). SawAt a.list mid (Load (Cell c) v)) (sym e) holds
]

next_word : (a b : Worker) (item : Item) (x v : ℕ) → IsNext a item b → SawAt a.list a.mid (Load (Word x) v)
next_word _ _ _ x v (Of_hand a s rest) = tt
next_word _ _ _ x v (Of_list a item rest) = tt
next_word _ _ _ x v (Of_cell a item) = tt

pub saw_at : (area : Area) (team k : ℕ) (a : Worker) (step : Step) (effect : Effect) (b : Worker) → Comes area team k a step effect b → SawAt a.list a.mid step
saw_at area team k _ _ _ _ (opens a b t v next) = next_word a b (WholeOf t) t v next
saw_at area team k _ _ _ _ (counts a t class n few) = few
saw_at area team k _ _ _ _ (sees_none a b s v next none) = next_word a b (SlotOf s) s v next
saw_at area team k _ _ _ _ (sees a b s x next young) = next_word a b (SlotOf s) s (byte_at x) next
saw_at area team k _ _ _ _ (looks_forwarded a s x t) = inl (t, refl)
saw_at area team k _ _ _ _ (looks_fixed a s x class v is has) = inr (inl (class, is))
saw_at area team k _ _ _ _ (looks_bare a s x class v is none) = inr (inl (class, is))
saw_at area team k _ _ _ _ (looks_plain a s x class) = inr (inr (class, refl))
saw_at area team k _ _ _ _ (has_spare a s o some) = tt
saw_at area team k _ _ _ _ (has_none a s o none) = tt
saw_at area team k _ _ _ _ (finds_free a s o b) = tt
saw_at area team k _ _ _ _ (finds_swept a s o b) = tt
saw_at area team k _ _ _ _ (finds_other a s o b state free swept) = tt
saw_at area team k _ _ _ _ (takes a s o b) = tt
saw_at area team k _ _ _ _ (takes_not a s o b found) = tt
saw_at area team k _ _ _ _ (finds_clear a s o b i saw there clear below) = tt
saw_at area team k _ _ _ _ (finds_full a s o b saw full) = tt
saw_at area team k _ _ _ _ (marks a s o b i found clear) = tt
saw_at area team k _ _ _ _ (marks_not a s o b i found set) = tt
saw_at area team k _ _ _ _ (reads a s o at j v l) = tt
saw_at area team k _ _ _ _ (writes a s o at j v) = tt
saw_at area team k _ _ _ _ (clears a s o at j l m) = tt
saw_at area team k _ _ _ _ (heads a s o at j l) = tt
saw_at area team k _ _ _ _ (forwards a s o at) = tt
saw_at area team k _ _ _ _ (loses a s o at found) = tt
saw_at area team k _ _ _ _ (has_failed a s o has) = tt
saw_at area team k _ _ _ _ (fails_bare a s o none) = tt
saw_at area team k _ _ _ _ (fails_not a s o found) = tt
saw_at area team k _ _ _ _ (sends a s t) = tt
saw_at area team k _ _ _ _ (dirties a s) = tt
saw_at area team k _ _ _ _ (keeps a items item i v many there may is some) =
    offering a.list a.mid (own_cell k i) v may (λ none. some_list items item (sym is ∙ none))
saw_at area team k _ _ _ _ (prepares a items item i many there may is) =
    offering a.list a.mid (own_cell k i) 0 may (λ none. some_list items item (sym is ∙ none))
saw_at area team k _ _ _ _ (offers a items item i next) = tt
saw_at area team k _ _ _ _ (offers_not a items item i next found) = tt
saw_at area team k _ _ _ _ (seeks a i is more) = looking a i (looked_cell team k i) 0 is (inl refl)
saw_at area team k _ _ _ _ (ends a i is last) = looking a i (looked_cell team k i) 0 is (inl refl)
saw_at area team k _ _ _ _ (finds a i item is) = looking a i (looked_cell team k i) (cell_word item) is (inr (item, refl))
saw_at area team k _ _ _ _ (grabs a i item) = tt
saw_at area team k _ _ _ _ (grabs_not a i item found) = tt
