-- Names in lines of which none misnames a class, and the lines that aren't run yet.
use Rattle.std.proofs.Common.{◌≡◌, ℕ, zero, suc, ◌+◌, ◌<◌, ◌≤◌, ◌⊎◌, inl, inr, ◌↔◌, IsTrue, Bool, true, false, Some, List, [], ◌∷◌, ◌++◌, map, length, take, drop, get_or, slice_get, refl, sym, ap, subst, ◌∙◌, arith, append_assoc, nat_eq}
use Rattle.std.specs.Cmp.Lexicographic.{pointwise, same_text, other_text}
use Rattle.std.proofs.lemmas.Grind.{flat_map-append}
use Rattle.std.proofs.lemmas.List.{append-nil, map-append, take-append-drop, length-map}
use Rattle.std.proofs.lemmas.Option.{same_Some}
use Rattle.sg_desc.specs.Shapes.{is_vector}
use Rattle.sg_program.specs.declared.program.Class.{Class}
use Rattle.sg_program.specs.declared.program.Statement.{Statement}
use Rattle.sg_program.specs.declared.program.Statement.TheVariants.{WSet, WGet, Final, NextFin}
use Rattle.sg_text.specs.declared.line.Line.{Line}
use Rattle.sg_text.specs.Lines.{Maker, AsNew, AsVector, AsMature, Sentence, Heads, Sets, Declares, Begins, Repeats, Ends, Makes, Says}
use Rattle.sg_grammar.specs.Text.{IsClassName, StandsFor}
use Rattle.sg_limits.specs.Faults.{class_in, classes_in, wants_vector, IsFit, IsMisnamed, IsPairClass, IsLater, Wide, LinkSet, LinkGet, Registers, Ready, PairOf, OldPairOf}
use Rattle.sg_parse.specs.Names.{HaveOwnNames, IsMadeLater, IsDoneLater, IsLaterBy}
use Rattle.sg_text.specs.Reading.{sentence_of}
use Rattle.sg_parse.specs.Indices.{HasNoneIn, IsFirstIn}
use Rattle.sg_parse.proofs.Naming.{class_name, name_of_class}
use Rattle.sg_parse.proofs.Firsts.{HasNoneBelow, sentence_at, none_more, none_all, first_here}

-- ---- lists

get_push : {A : Type 0} (xs : List A) (x y : A) (i : ℕ) → slice_get (xs ++ x ∷ []) i ≡ Some y → (slice_get xs i ≡ Some y) ⊎ ((i ≡ length xs) × (y ≡ x))
get_push [] x y zero e = inr (refl, cc)
get_push [] x y (suc i) e = absurd cc
get_push (z ∷ zs) x y zero e = inl e
get_push (z ∷ zs) x y (suc i) e = elim (get_push zs x y i e) [ inl p ↦ inl p | inr p ↦ inr (ap suc p.0, p.1) ]

pub get_front : {A : Type 0} (xs ys : List A) (y : A) (i : ℕ) → slice_get xs i ≡ Some y → slice_get (xs ++ ys) i ≡ Some y
get_front [] ys y i e = absurd cc
get_front (x ∷ xs) ys y zero e = e
get_front (x ∷ xs) ys y (suc i) e = get_front xs ys y i e

-- ---- classes of different names

abbrev names : List Class → List (List ℕ)
names classes = map (λ (class : Class). class.name) classes

distinct_push : (cs : List Class) (c : Class) → HaveOwnNames cs → ((k : ℕ) → IsClassName cs c.name k → ⊥) → HaveOwnNames (cs ++ c ∷ [])
distinct_push cs c distinct new = λ i j name a b.
    let p = get_push (names cs) c.name name i (rw map-append at a) in
    let q = get_push (names cs) c.name name j (rw map-append at b) in
    elim p [
      | inl x ↦ elim q [ inl y ↦ distinct i j name x y | inr y ↦ absurd (new i (x ∙ ap (λ (n : List ℕ). Some n) y.1)) ]
      | inr x ↦ elim q [ inl y ↦ absurd (new j (y ∙ ap (λ (n : List ℕ). Some n) x.1)) | inr y ↦ x.0 ∙ sym y.0 ]
    ]

distinct_line : (before : List Sentence) (line : Sentence) → HaveOwnNames (classes_in before) → ¬ IsMisnamed before line → HaveOwnNames (classes_in before ++ class_in line)
distinct_line before Heads distinct right = rw append-nil distinct
distinct_line before (Sets at n) distinct right = rw append-nil distinct
distinct_line before (Declares name shape) distinct right = distinct_push (classes_in before) (record { name = name; shape = shape }) distinct (λ c named. right (inl (name, shape, c, refl, named)))
distinct_line before Begins distinct right = rw append-nil distinct
distinct_line before (Repeats times) distinct right = rw append-nil distinct
distinct_line before Ends distinct right = rw append-nil distinct
distinct_line before (Makes maker r name) distinct right = rw append-nil distinct
distinct_line before (Says statement) distinct right = rw append-nil distinct

classes_push : (before : List Sentence) (line : Sentence) → classes_in (before ++ line ∷ []) ≡ classes_in before ++ class_in line
classes_push before line = flat_map-append class_in before (line ∷ []) ∙ ap (λ (cs : List Class). classes_in before ++ cs) (append-nil (class_in line))

distinct_from : (before lines : List Sentence) → HaveOwnNames (classes_in before) → ((j : ℕ) (line : Sentence) → slice_get lines j ≡ Some line → ¬ IsMisnamed (before ++ take j lines) line) → HaveOwnNames (classes_in (before ++ lines))
distinct_from before [] distinct right = rw append-nil distinct
distinct_from before (line ∷ lines) distinct right =
    let here : ¬ IsMisnamed before line = subst (λ (b : List Sentence). ¬ IsMisnamed b line) (append-nil before) (right 0 line refl) in
    let next : HaveOwnNames (classes_in (before ++ line ∷ [])) = rw (classes_push before line) (distinct_line before line distinct here) in
    subst (λ (all : List Sentence). HaveOwnNames (classes_in all)) (append_assoc before (line ∷ []) lines)
    (distinct_from (before ++ line ∷ []) lines next (λ j other there. subst (λ (b : List Sentence). ¬ IsMisnamed b other) (sym (append_assoc before (line ∷ []) (take j lines))) (right (suc j) other there)))

pub distinct_named : (lines : List Sentence) → HasNoneIn IsMisnamed lines → HaveOwnNames (classes_in lines)
distinct_named lines named = distinct_from [] lines (λ c d word p q. absurd cc) (λ j line there. named j line there)

split_classes : (lines : List Sentence) (i : ℕ) → classes_in lines ≡ classes_in (take i lines) ++ classes_in (drop i lines)
split_classes lines i = ap classes_in (sym (take-append-drop i lines)) ∙ flat_map-append class_in (take i lines) (drop i lines)

pub front_class : (lines : List Sentence) (i c : ℕ) (class : Class) → slice_get (classes_in (take i lines)) c ≡ Some class → slice_get (classes_in lines) c ≡ Some class
front_class lines i c class there = rw (split_classes lines i) (get_front (classes_in (take i lines)) (classes_in (drop i lines)) class c there)

front_name : (lines : List Sentence) (i c : ℕ) (word : List ℕ) → IsClassName (classes_in (take i lines)) word c → IsClassName (classes_in lines) word c
front_name lines i c word named = let k = name_of_class _ c word named in class_name (classes_in lines) c k.0 word (front_class lines i c k.0 k.1) k.2

stands : (classes : List Class) (word : List ℕ) (c : ℕ) → HaveOwnNames classes → IsClassName classes word c → StandsFor classes word c
stands classes word c distinct named = record { named = named; first = λ d before other. let same = distinct d c word other named in omega arith }

find_by : (k : Class) (ks : List Class) (word : List ℕ) (b : Bool) → b ≡ pointwise nat_eq k.name word → ((c : ℕ) × IsClassName ks word c) ⊎ ((c : ℕ) → ¬ IsClassName ks word c)
    → ((c : ℕ) × IsClassName (k ∷ ks) word c) ⊎ ((c : ℕ) → ¬ IsClassName (k ∷ ks) word c)
find_by k ks word true e rest = inl (0, ap (λ (w : List ℕ). Some w) (same_text k.name word e))
find_by k ks word false e (inl found) = inl (suc found.0, found.1)
find_by k ks word false e (inr none) = inr (λ c. no_name_by k ks word c (other_text k.name word e) none)
  where
    no_name_by : (k : Class) (ks : List Class) (word : List ℕ) (c : ℕ) → ¬ (k.name ≡ word) → ((c : ℕ) → ¬ IsClassName ks word c) → ¬ IsClassName (k ∷ ks) word c
    no_name_by k ks word zero other none named = other (same_Some k.name word named)
    no_name_by k ks word (suc c) other none named = none c named

find_name : (classes : List Class) (word : List ℕ) → ((c : ℕ) × IsClassName classes word c) ⊎ ((c : ℕ) → ¬ IsClassName classes word c)
find_name [] word = inr (λ c named. absurd cc)
find_name (k ∷ ks) word = find_by k ks word (pointwise nat_eq k.name word) refl (find_name ks word)

same_or : (a b : Bool) → (a ≡ b) ⊎ (a ≡ b → ⊥)
same_or true true = inl refl
same_or false false = inl refl
same_or true false = inr (λ e. absurd cc)
same_or false true = inr (λ e. absurd cc)

-- a name in a line that makes an object stands for a class that is declared above and is of the kind that the line asks for
pub made_fit : (lines : List Sentence) (i : ℕ) (maker : Maker) (r : ℕ) (name : List ℕ) → HasNoneIn IsMisnamed lines → slice_get lines i ≡ Some (Makes maker r name)
    → (c : ℕ) × StandsFor (classes_in lines) name c × IsFit (classes_in (take i lines)) maker name c
made_fit lines i maker r name named at =
    let distinct = distinct_named lines named in
    let right = named i (Makes maker r name) at in
    elim (find_name (classes_in (take i lines)) name) [
      | inr none ↦ absurd (right (inr (maker, r, name, refl, λ c fit. none c (class_name _ c fit.class name fit.there fit.named))))
      | inl found ↦
          let k = name_of_class (classes_in (take i lines)) found.0 name found.1 in
          elim (same_or (is_vector k.0.shape.kind) (wants_vector maker)) [
            | inl fits ↦ (found.0, stands (classes_in lines) name found.0 distinct (front_name lines i found.0 name found.1), record { class = k.0; there = k.1; named = k.2; fits = fits })
            | inr other ↦ absurd (right (inr (
              maker,
              r,
              name,
              refl,
              λ c fit.
                  let same : c ≡ found.0 = distinct c found.0 name (front_name lines i c name (class_name _ c fit.class name fit.there fit.named)) (front_name lines i found.0 name found.1) in
                  let class : fit.class ≡ k.0 = same_Some fit.class k.0 (sym fit.there ∙ ap (λ (n : ℕ). slice_get (classes_in (take i lines)) n) same ∙ k.1) in
                  other (sym (ap (λ (d : Class). is_vector d.shape.kind) class) ∙ fit.fits),
            )))
          ]
    ]

-- and so for some class
pub made_named : (lines : List Sentence) (i : ℕ) (maker : Maker) (r : ℕ) (name : List ℕ) → HasNoneIn IsMisnamed lines → slice_get lines i ≡ Some (Makes maker r name) → (c : ℕ) × StandsFor (classes_in lines) name c
made_named lines i maker r name named at = let fit = made_fit lines i maker r name named at in (fit.0, fit.1)

-- ---- lines that aren't run yet

pair_front : (lines : List Sentence) (i : ℕ) (name : List ℕ) → IsPairClass (classes_in (take i lines)) name → IsPairClass (classes_in lines) name
pair_front lines i name pair = (pair.0, pair.1, front_class lines i pair.0 pair.1 pair.2, pair.3, pair.4)

pair_above : (lines : List Sentence) (i : ℕ) (maker : Maker) (r : ℕ) (name : List ℕ) → HasNoneIn IsMisnamed lines → slice_get lines i ≡ Some (Makes maker r name)
    → IsPairClass (classes_in lines) name → IsPairClass (classes_in (take i lines)) name
pair_above lines i maker r name named at pair =
    let fit = made_fit lines i maker r name named at in
    let same : pair.0 ≡ fit.0 = distinct_named lines named pair.0 fit.0 name (class_name _ pair.0 pair.1 name pair.2 pair.3) fit.1.named in
    let class : pair.1 ≡ fit.2.class = same_Some pair.1 fit.2.class (sym pair.2 ∙ ap (λ (n : ℕ). slice_get (classes_in lines) n) same ∙ front_class lines i fit.0 fit.2.class fit.2.there) in
    (fit.0, fit.2.class, fit.2.there, fit.2.named, sym (ap (λ (d : Class). d.shape.kind) class) ∙ pair.4)

done_later : (before : List Sentence) (s : Statement) → IsDoneLater s → IsLater before (Says s)
done_later before (WSet w r long) h = LinkSet w r long
done_later before (WGet r w) h = LinkGet r w
done_later before (Final r) h = Registers r
done_later before (NextFin r) h = Ready r
done_later before s h = absurd h

made_later : (lines : List Sentence) (i : ℕ) (maker : Maker) (r : ℕ) (name : List ℕ) → HasNoneIn IsMisnamed lines → slice_get lines i ≡ Some (Makes maker r name) → IsMadeLater (classes_in lines) maker name → IsLater (take i lines) (Makes maker r name)
made_later lines i AsNew r name named at h = PairOf r name (pair_above lines i AsNew r name named at h)
made_later lines i (AsVector count) r name named at h = Wide count r name h
made_later lines i AsMature r name named at h = OldPairOf r name (pair_above lines i AsMature r name named at h)

later_is : (lines : List Sentence) (i : ℕ) (line : Sentence) → HasNoneIn IsMisnamed lines → slice_get lines i ≡ Some line → IsLaterBy (classes_in lines) line → IsLater (take i lines) line
later_is lines i (Makes maker r name) named at h = made_later lines i maker r name named at h
later_is lines i (Says statement) named at h = done_later (take i lines) statement h
later_is lines i line named at h = absurd h

later_by : (before : List Sentence) (classes : List Class) (line : Sentence) → ((name : List ℕ) → IsPairClass (classes_in before) name → IsPairClass classes name) → IsLater before line → IsLaterBy classes line
later_by before classes line pairs (Wide count r name wide) = wide
later_by before classes line pairs (LinkSet w r long) = tt
later_by before classes line pairs (LinkGet r w) = tt
later_by before classes line pairs (Registers r) = tt
later_by before classes line pairs (Ready r) = tt
later_by before classes line pairs (PairOf r name pair) = pairs name pair
later_by before classes line pairs (OldPairOf r name pair) = pairs name pair

-- where the classes above the line have these in front
pub later_front : (before : List Sentence) (classes : List Class) (line : Sentence) → ((name : List ℕ) → IsPairClass classes name → IsPairClass (classes_in before) name) → IsLaterBy classes line → IsLater before line
later_front before classes (Makes AsNew r name) pairs h = PairOf r name (pairs name h)
later_front before classes (Makes (AsVector count) r name) pairs h = Wide count r name h
later_front before classes (Makes AsMature r name) pairs h = OldPairOf r name (pairs name h)
later_front before classes (Says statement) pairs h = done_later before statement h
later_front before classes line pairs h = absurd h

-- ---- the loop over the lines

pub later_stop : (lines : List Line) (i : ℕ) (d : Line) (classes : List Class) (b : Bool) → classes ≡ classes_in (map sentence_of lines) → HasNoneIn IsMisnamed (map sentence_of lines)
    → HasNoneBelow IsLater (map sentence_of lines) i → i < length lines → IsTrue b ↔ IsLaterBy classes (sentence_of (get_or lines i d)) → b ≡ true → IsFirstIn IsLater (map sentence_of lines) i
later_stop lines i d classes b same named below within told y =
    let all = map sentence_of lines in
    let line = sentence_of (get_or lines i d) in
    let at = sentence_at lines i d within in
    first_here IsLater all i line below at (later_is all i line named at (subst (λ (cs : List Class). IsLaterBy cs line) same (told.0 y)))

pub later_more : (lines : List Line) (i : ℕ) (d : Line) (classes : List Class) (b : Bool) → classes ≡ classes_in (map sentence_of lines)
    → HasNoneBelow IsLater (map sentence_of lines) i → i < length lines → IsTrue b ↔ IsLaterBy classes (sentence_of (get_or lines i d)) → b ≡ false → HasNoneBelow IsLater (map sentence_of lines) (i + 1)
later_more lines i d classes b same below within told n =
    let all = map sentence_of lines in
    let line = sentence_of (get_or lines i d) in
    none_more IsLater all i line below (sentence_at lines i d within)
    (λ fault. let yes : IsTrue b = told.1 (subst (λ (cs : List Class). IsLaterBy cs line) (sym same) (later_by (take i all) (classes_in all) line (pair_front all i) fault)) in absurd cc)

pub later_end : (lines : List Line) (i : ℕ) → HasNoneBelow IsLater (map sentence_of lines) i → length lines ≤ i → HasNoneIn IsLater (map sentence_of lines)
later_end lines i below all = none_all IsLater (map sentence_of lines) i below (omega (arith, length-map lines sentence_of))
