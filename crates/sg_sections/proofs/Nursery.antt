-- The names of the objects that are told of the nursery, and how many words these have.
use Rattle.std.proofs.Common.{◌≡◌, ◌≢◌, ℕ, ◌+◌, ◌*◌, ◌≤◌, ◌<◌, true, List, Some, length, map, get_or, AllPairs, refl, sym, ap, ◌∙◌, subst, inl, inr, arith}
use Rattle.std.proofs.lemmas.Bool.{cases_lt}
use Rattle.std.proofs.lemmas.List.{length-map}
use Rattle.std.proofs.lemmas.List.Elements.{Contains-get_or}
use Rattle.std.proofs.lemmas.Option.{slice_get_within, get_or_from_slice_get, slice_get_read}
use Rattle.std.specs.List.{Contains, sum_by}
use Rattle.sg_words.specs.Address.{byte_at, word_at}
use Rattle.sg_words.specs.Lists.{In}
use Rattle.sg_words.specs.Sections.{nursery_base, old_base, IsYoung, IsLayout}
use Rattle.sg_words.proofs.Sorted.{rising}
use Rattle.sg_program.specs.declared.program.Program.{Program}
use Rattle.sg_program.specs.Scripts.{words_for}
use Rattle.sg_graph.specs.declared.reports.Sections.{Sections}
use Rattle.sg_graph.specs.Graph.{Graph}
use Rattle.sg_graph.specs.Book.{Book, Young}
use Rattle.sg_graph.specs.Heap.{Owner, Of, Frag, Buf, Nobody}
use Rattle.sg_graph.specs.Major.{AreNames}
use Rattle.sg_graph.specs.Pause.{StandsYoung}
use Rattle.sg_graph.specs.Sections.{TellsNursery}
use Rattle.sg_space.specs.declared.objects.Object.{Object}
use Rattle.sg_space.specs.Space.{Contents}
use Rattle.sg_space.specs.Standing.{word, TellsYoung, IsToldOf}
use Rattle.sg_heap.specs.Fronts.{fronts, IsFronted}
use Rattle.sg_sections.specs.Parts.{words_together}
use Rattle.sg_sections.proofs.Listed.{in_names, names_in, names_distinct, words_named, spread}

-- the name that has a word
pub name_in : Owner → ℕ
name_in (Of n) = n
name_in (Frag f) = 0
name_in (Buf k) = 0
name_in Nobody = 0

pub name_of : (o : Owner) (n : ℕ) → o ≡ Of n → name_in o ≡ n
unfolding name_in
name_of o n e = ap name_in e

-- the young object of this name is told of
pub record IsNamed (g : Graph) (b : Book) (owner : ℕ → Owner) (o : Object) (n : ℕ) : Type 0 where
  pub some : n ≢ 0
  pub owns : owner (word_at o.at) ≡ Of n
  pub stands : b.stands n ≡ true
  pub young : b.section n ≡ Young
  pub at : o.at ≡ byte_at (b.address n)
  pub words : o.words ≡ words_for (g.size n)

module _ (p : Program) (s : Contents) (g : Graph) (b : Book) (owner : ℕ → Owner) (is : IsFronted p s g b owner) (told : List Object)
    (tells : TellsYoung s (fronts b.address owner) told) where
  told_of : (o : Object) → Contains told o → (h : ℕ) × (fronts b.address owner h ≡ Some h) × IsYoung s.layout h × IsToldOf s h o
  told_of o i = tells.each i.0 o (slice_get_read told _ i.0 o refl i.1 (sym i.2))

  named : (o : Object) → Contains told o → (n : ℕ) × IsNamed g b owner o n
  named o i =
      let t = told_of o i in
      let h = t.0 in
      let in_nursery = t.2 in
      let at = t.3.at in
      let words = t.3.words in
      let f = is.named_front h h t.1 in
      let n = f.0 in
      let here = f.3 in
      let stands = (is.owned n h f.2).0 in
      let same = is.nursery_is in
      let young : b.section n ≡ Young = is.young_there n f.1 stands (omega arith) in
      let first : word_at o.at ≡ h = omega arith in
      let length_is : word s (h + 1) ≡ g.size n = ap (λ x. word s (x + 1)) (sym here) ∙ is.length_is n f.1 stands in
      (n, record { some = f.1; owns = ap owner first ∙ f.2; stands = stands; young = young; at = omega arith; words = omega arith })

  abbrev young_name : Object → ℕ
  young_name o = name_in (owner (word_at o.at))

  young_is : (o : Object) (n : ℕ) → IsNamed g b owner o n → young_name o ≡ n
  young_is o n h = name_of (owner (word_at o.at)) n h.owns

  rise : AllPairs (λ (j k : Object). j.at < k.at) told
  rise j k d l u = rising (λ (o : Object). o.at) told tells.in_order j k d l u

  young_out : (n : ℕ) → In n (map young_name told) → StandsYoung b n
  young_out n i =
      let q = names_in young_name told n i in
      let h = named q.0 q.1 in
      let e : h.0 ≡ n = sym (young_is q.0 h.0 h.1) ∙ sym q.2 in
      subst (StandsYoung b) e (h.1.some, h.1.stands, h.1.young)

  young_in : (n : ℕ) → StandsYoung b n → In n (map young_name told)
  young_in n stands =
      let inside = is.young_inside n stands.0 stands.1 stands.2 in
      let to = inside.1 in
      let own = is.owns_first n stands.1 in
      let same = is.nursery_is in
      let q = tells.all (b.address n) (is.is_owned n (b.address n) stands.0 own) (inside.0, omega arith) in
      let o = q.1 in
      let at = q.3 in
      let i : Contains told o = (q.0, slice_get_within told q.0 o q.2, get_or_from_slice_get told q.0 o o q.2) in
      let first : word_at o.at ≡ b.address n = omega arith in
      let name : young_name o ≡ n = name_of (owner (word_at o.at)) n (ap owner first ∙ own) in
      subst (λ (z : ℕ). In z (map young_name told)) name (in_names young_name told o i)

  are_names : AreNames (StandsYoung b) (map young_name told)
  are_names = record {
    once = names_distinct young_name (λ n. byte_at (b.address n)) told
        (λ o i. (let h = named o i in h.1.at ∙ ap (λ z. byte_at (b.address z)) (sym (young_is o h.0 h.1)))) rise;
    exact = λ n. (young_out n, young_in n);
  }

  words_are : words_together told ≡ sum_by (λ n. words_for (g.size n)) (map young_name told)
  words_are = words_named young_name (λ n. words_for (g.size n)) told (λ o i. (let h = named o i in h.1.words ∙ ap (λ z. words_for (g.size z)) (sym (young_is o h.0 h.1))))

  pub tells_nursery : (report : Sections) → report.young ≡ length told → report.young_words ≡ words_together told → TellsNursery g b report
  tells_nursery report many words = record {
    names = map young_name told;
    are = are_names;
    count = many ∙ sym (length-map told young_name);
    words = words ∙ words_are;
  }

  -- the objects lie one behind another in the nursery
  apart : AllPairs (λ (j k : Object). j.at + 8 * j.words ≤ k.at) told
  apart j k d l u =
      let o = get_or told j d in
      let q = get_or told k d in
      let m = named o (Contains-get_or told j d (omega arith)) in
      let n = named q (Contains-get_or told k d u) in
      let up = rise j k d l u in
      let at_m = m.1.at in
      let at_n = n.1.at in
      let words = m.1.words in
      elim (cases_lt (b.address n.0) (b.address m.0 + words_for (g.size m.0))) [
        | inl under ↦
            (let e = is.one_owner m.0 n.0 (b.address n.0) (is.owns m.0 (b.address n.0) m.1.stands (omega arith) under) (is.owns_first n.0 n.1.stands) in
            let same = ap b.address e in
            absurd (omega arith))
        | inr over ↦ omega arith
      ]

  pub few : IsLayout s.layout → (words_together told ≤ 65536) × (length told ≤ words_together told)
  few limits =
      let most = limits.nursery_most in
      let same = is.nursery_is in
      let all = spread told nursery_base (old_base s.layout) (omega arith)
      (λ o i.
      let h = named o i in
      let at = h.1.at in
      let words = h.1.words in
      let inside = is.young_inside h.0 h.1.some h.1.stands h.1.young in
      let from = inside.0 in
      let to = inside.1 in
      (omega arith, omega arith, omega arith))
      apart in
      let fits = all.0 in
      (omega arith, all.1)
