-- As an epoch ends, the blocks are owed that were as it began and weren't swept in it.
use Rattle.std.proofs.Common.{◌≡◌, ◌≢◌, ℕ, suc, ◌<◌, ◌≤◌, ◌↔◌, Bool, true, false, inl, inr, List, [], ◌∷◌, length, map, sym, refl, ap, ◌∙◌, subst, arith}
use Rattle.std.proofs.lemmas.Bool.{cases_eq}
use Rattle.std.proofs.lemmas.Map.Made.{Contains-tail}
use Rattle.std.specs.List.{Contains}
use Rattle.sg_words.specs.Words.{put}
use Rattle.sg_words.specs.Reach.{IsFreshIn, AreDistinct, AreAmong}
use Rattle.sg_words.proofs.Puts.{put-at, put-other}
use Rattle.sg_words.proofs.Distinct.{few}
use Rattle.sg_program.specs.declared.program.Statement.{Statement}
use Rattle.sg_program.specs.declared.program.Statement.TheVariants.{New, NewV, Mature, Collect, Sections}
use Rattle.sg_program.specs.declared.program.Program.{Program}
use Rattle.sg_program.specs.declared.answers.Answer.{Answer}
use Rattle.sg_program.specs.declared.answers.Answer.TheVariants.{At}
use Rattle.sg_graph.specs.declared.reports.EpochReport.{EpochReport}
use Rattle.sg_graph.specs.Graph.{Graph}
use Rattle.sg_graph.specs.Book.{Book, swept_in, IsPlaced, Books}
use Rattle.sg_graph.specs.Epoch.{Said, Explains, IsEpoch}
use Rattle.sg_graph.specs.Laws.{SweepsOnce}

-- a statement sweeps no block
young_owes : (p : Program) (b : Book) (k n name : ℕ) (c : Book) → IsPlaced p b k n name c → c.owed ≡ b.owed
young_owes p b k n name c (small, inl x) = ap (λ (w : Book). w.owed) x.after
young_owes p b k n name c (small, inr (f, x)) = ap (λ (w : Book). w.owed) x.after

statement_owes : (p : Program) (g : Graph) (b : Book) (k : ℕ) (s : Statement) (a : Answer) (c : Book) → Books p g b k s a c → c.owed ≡ b.owed
statement_owes p g b k (New r class) (At name) c x = young_owes p b k _ name c x
statement_owes p g b k (New r class) a c x = absurd x
statement_owes p g b k (NewV r class count) (At name) c x = young_owes p b k _ name c x
statement_owes p g b k (NewV r class count) a c x = absurd x
statement_owes p g b k (Mature r class) (At name) c x = ap (λ (w : Book). w.owed) x.after
statement_owes p g b k (Mature r class) a c x = absurd x
statement_owes p g b k (Collect major) a c x = absurd x
statement_owes p g b k Sections a c x = absurd x
statement_owes p g b k s a c x = ap (λ (w : Book). w.owed) x

order_owes : (p : Program) (g : Graph) (b : Book) (order : List Said) (h : Graph) (c : Book) → Explains p g b order h c → c.owed ≡ b.owed
order_owes p g b [] h c x = ap (λ (w : Book). w.owed) x.1
order_owes p g b (said ∷ order) h c (h1, c1, t, x) = order_owes p h1 c1 order h c x ∙ statement_owes p g b said.by t.statement said.answer c1 t.books

-- who is in a list is its first or a later one
first_in : (k : ℕ) (more : List ℕ) → Contains (k ∷ more) k
first_in k more = (0, omega arith, refl)

later_in : (k j : ℕ) (more : List ℕ) → Contains more j → Contains (k ∷ more) j
later_in k j more there = (suc there.0, (let l = there.1 in omega arith), there.2)

-- a sweep of one block before those of others leaves what is neither
module _ (b : Book) (k : ℕ) (more : List ℕ) (j : ℕ) where
  abbrev IsLeft : Type 0
  IsLeft = (swept_in b (k ∷ more)).owed j ≡ true

  one_more : IsLeft ↔ ((put b.owed k false j ≡ true) × (¬ Contains more j)) → IsLeft ↔ ((b.owed j ≡ true) × (¬ Contains (k ∷ more) j))
  one_more later = (there, back)
    where
      there : IsLeft → (b.owed j ≡ true) × (¬ Contains (k ∷ more) j)
      there e = let h = later.0 e in elim (cases_eq j k) [
        | inl q ↦ absurd (let z : false ≡ true = sym (put-at b.owed k false j q) ∙ h.0 in cc z)
        | inr d ↦ (sym (put-other b.owed k false j d) ∙ h.0, λ in_list. h.1 (Contains-tail k more j (λ q. d (sym q)) in_list))
      ]

      back : (b.owed j ≡ true) × (¬ Contains (k ∷ more) j) → IsLeft
      back (e, out) =
          let d : j ≢ k = λ q. out (subst (λ j. Contains (k ∷ more) j) (sym q) (first_in k more)) in
          later.1 (put-other b.owed k false j d ∙ e, λ in_more. out (later_in k j more in_more))

-- a sweep of these blocks leaves the others owed
sweeping : (b : Book) (swept : List ℕ) (j : ℕ) → (swept_in b swept).owed j ≡ true ↔ ((b.owed j ≡ true) × (¬ Contains swept j))
sweeping b [] j = (λ e. (e, none), λ h. h.0)
  where
    none : ¬ Contains [] j
    none there = let l = there.1 in absurd (omega arith)
sweeping b (k ∷ more) j = one_more b k more j (sweeping (record b { owed = put b.owed k false }) more j)

-- different numbers below n are no more than n
fresh_next : (x : ℕ) (ys : List ℕ) → IsFreshIn x ys → IsFreshIn (suc x) (map suc ys)
fresh_next x [] h = tt
fresh_next x (y ∷ ys) h = (λ e. h.0 (omega arith), fresh_next x ys h.1)

distinct_next : (xs : List ℕ) → AreDistinct xs → AreDistinct (map suc xs)
distinct_next [] h = tt
distinct_next (x ∷ xs) h = (fresh_next x xs h.0, distinct_next xs h.1)

among_next : (n : ℕ) (xs : List ℕ) → ((x : ℕ) → Contains xs x → x < n) → AreAmong n (map suc xs)
among_next n [] h = tt
among_next n (x ∷ xs) h = (omega arith, (let l = h x (first_in x xs) in omega arith), among_next n xs (λ y there. h y (later_in x y xs there)))

same_length : (xs : List ℕ) → length (map suc xs) ≡ length xs
same_length [] = refl
same_length (x ∷ xs) = ap suc (same_length xs)

few_below : (n : ℕ) (xs : List ℕ) → AreDistinct xs → ((x : ℕ) → Contains xs x → x < n) → length xs ≤ n
few_below n xs once below = subst (λ l. l ≤ n) (same_length xs) (few n (map suc xs) (distinct_next xs once) (among_next n xs below))

module _ (p : Program) (e : ℕ) (g : Graph) (b : Book) (order : List Said) (swept : List ℕ) (r : EpochReport) (h : Graph) (c : Book)
    (x : IsEpoch p e g b order swept r h c) where
  owed : (j : ℕ) → c.owed j ≡ true ↔ ((b.owed j ≡ true) × (¬ Contains swept j))
  owed j =
      subst (λ (o : ℕ → Bool). c.owed j ≡ true ↔ ((o j ≡ true) × (¬ Contains swept j))) (order_owes p g b order x.last x.book x.explains)
      (subst (λ (w : Book). w.owed j ≡ true ↔ ((x.book.owed j ≡ true) × (¬ Contains swept j))) (sym x.sweeps) (sweeping x.book swept j))

  at_most : length swept ≤ p.config.blocks
  at_most = few_below p.config.blocks swept x.once (λ j there. (x.were_owed j there).0)

pub sweeps_once : SweepsOnce
sweeps_once = record { owed = owed; few = at_most }
