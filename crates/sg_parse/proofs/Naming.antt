-- The classes that the code holds by their names, and the names in the lines.
use Rattle.std.proofs.Common.{◌≡◌, ℕ, zero, suc, ◌<◌, inl, inr, ◌↔◌, IsTrue, Bool, true, false, not, Some, None, Option, List, [], ◌∷◌, ◌++◌, map, length, get_or, slice_get, position, is_some, refl, sym, ap, ◌∙◌, Bor, IfSome, IfNone, arith, nat_eq}
use Rattle.std.specs.Bool.{beq}
use Rattle.std.specs.Cmp.Lexicographic.{pointwise, same_text, other_text}
use Rattle.std.specs.List.{IsDistinct, AllByRecursion}
use Rattle.std.specs.Map.{keys_of}
use Rattle.std.specs.Option.{option_map}
use Rattle.std.proofs.lemmas.List.{map-append}
use Rattle.std.proofs.lemmas.List.Quantifiers.{position-Some}
use Rattle.std.proofs.lemmas.Option.{slice_get-map, same_Some}
use Rattle.indexmap.specs.IndexMap.{insert_entry}
use Rattle.indexmap.proofs.MapLemmas.{Missing-position}
use Rattle.sg_desc.specs.declared.shapes.Descriptor.TheVariants.{Ephemeron}
use Rattle.sg_desc.specs.declared.shapes.Shape.{Shape}
use Rattle.sg_desc.specs.Shapes.{is_vector}
use Rattle.sg_program.specs.declared.program.Class.{Class}
use Rattle.sg_text.specs.declared.line.Form.{Form}
use Rattle.sg_text.specs.Lines.{Maker, Sentence, Declares, Makes}
use Rattle.sg_grammar.specs.Text.{IsClassName, StandsFor}
use Rattle.sg_limits.specs.Faults.{wants_vector, IsFit, IsPairClass}
use Rattle.sg_text.specs.Reading.{shape_in}
use Rattle.sg_parse.specs.Names.{class_named, HaveOwnNames, IsNamed, Misnames}

-- ---- entries of the map

abbrev Key : Type 0
Key = Bor (List ℕ)

abbrev Entries : Type 0
Entries = List (Bor (List ℕ) × Form)

-- the classes of entries
abbrev pub classes_from : Entries → List Class
classes_from es = map (λ e. class_named e.0.now e.1) es

abbrev same_key : Key → Key → Bool
same_key a b = pointwise nat_eq a.now b.now

name_at : (es : Entries) (d : Key) (i : ℕ) (word : List ℕ) → i < length (keys_of es) → (get_or (keys_of es) i d).now ≡ word → IsClassName (classes_from es) word i
name_at [] d i word within same = absurd (omega arith)
name_at (e ∷ es) d zero word within same = ap (λ (w : List ℕ). Some w) same
name_at (e ∷ es) d (suc i) word within same = name_at es d i word (omega arith) same

key_at : (es : Entries) (d : Key) (i : ℕ) (word : List ℕ) → IsClassName (classes_from es) word i → (i < length (keys_of es)) × ((get_or (keys_of es) i d).now ≡ word)
key_at [] d i word named = absurd cc
key_at (e ∷ es) d zero word named = (omega arith, cc)
key_at (e ∷ es) d (suc i) word named = let rest = key_at es d i word named in (omega (arith, rest.0), rest.1)

number_found : (es : Entries) (name : Key) (i : ℕ) → position (λ k. pointwise nat_eq name.now k.now) (keys_of es) ≡ Some i → StandsFor (classes_from es) name.now i
number_found es name i at =
    let found = position-Some (λ (k : Key). pointwise nat_eq name.now k.now) (keys_of es) i name at in
    record {
      named = name_at es name i name.now found.0 (sym (same_text name.now _ (sym found.1)));
      first = λ d before named.
          let key = key_at es name d name.now named in
          other_text name.now _ (sym (found.2 d before)) (sym key.1);
    }

no_name : (es : Entries) (name : Key) → AllByRecursion (λ k. pointwise nat_eq name.now k.now ≡ false) (keys_of es) → (c : ℕ) → ¬ IsClassName (classes_from es) name.now c
no_name [] name h c named = absurd cc
no_name (e ∷ es) name h zero named = other_text name.now e.0.now (sym h.0) (sym (same_Some e.0.now name.now named))
no_name (e ∷ es) name h (suc c) named = no_name es name h.1 c named

pub number_some : (es : Entries) (name : Key) (r : Option ℕ) → r ≡ position (λ k. pointwise nat_eq name.now k.now) (keys_of es) → IfSome r (StandsFor (classes_from es) name.now)
number_some es name None e = tt
number_some es name (Some i) e = number_found es name i (sym e)

pub number_none : (es : Entries) (name : Key) (r : Option ℕ) → r ≡ position (λ k. pointwise nat_eq name.now k.now) (keys_of es) → IfNone r ((c : ℕ) → ¬ IsClassName (classes_from es) name.now c)
number_none es name (Some i) e = tt
number_none es name None e = no_name es name (Missing-position (λ (k : Key). pointwise nat_eq name.now k.now) es (sym e)).absent

-- the entry that stands first has this name
first_named : (es : Entries) (name : Key) (e : Key × Form) → Some e ≡ slice_get es 0 → e.0.now ≡ name.now → StandsFor (classes_from es) name.now 0
first_named [] name e there same = absurd cc
first_named (x ∷ es) name e there same = record {
  named = ap (λ (k : Key × Form). Some k.0.now) (sym (same_Some e x there)) ∙ ap (λ (w : List ℕ). Some w) same;
  first = λ d before named. absurd (omega (arith, before));
}

first_name : (es : Entries) (name : Key) (e : Key × Form) → Some e ≡ slice_get es 0 → StandsFor (classes_from es) name.now 0 → e.0.now ≡ name.now
first_name [] name e there stands = absurd cc
first_name (x ∷ es) name e there stands = ap (λ (k : Key × Form). k.0.now) (same_Some e x there) ∙ same_Some x.0.now name.now stands.named

pub first_told : (es : Entries) (name : Key) (e : Key × Form) (r : Bool) → Some e ≡ slice_get es 0 → r ≡ pointwise nat_eq e.0.now name.now → IsTrue r ↔ StandsFor (classes_from es) name.now 0
first_told es name e true there told = (λ yes. first_named es name e there (same_text e.0.now name.now told), λ stands. refl)
first_told es name e false there told = (λ yes. absurd cc, λ stands. absurd (other_text e.0.now name.now told (first_name es name e there stands)))

pub none_first : (es : Entries) (name : Key) → None ≡ slice_get es 0 → ¬ StandsFor (classes_from es) name.now 0
none_first [] name there stands = let named = stands.named in absurd cc
none_first (x ∷ es) name there stands = absurd cc

-- a later entry has another name
other_below : (es : Entries) (k : Key) (c : ℕ) → AllByRecursion (λ y. same_key k y ≡ false) (keys_of es) → ¬ IsClassName (classes_from es) k.now c
other_below es k c h named = no_name es k h c named

pub distinct_entries : (es : Entries) → IsDistinct (λ (a b : Key). pointwise nat_eq a.now b.now) (keys_of es) → HaveOwnNames (classes_from es)
unfolding IsDistinct
distinct_entries [] h c d word p q = absurd cc
distinct_entries (e ∷ es) h zero zero word p q = refl
distinct_entries (e ∷ es) h zero (suc d) word p q = absurd (other_below es e.0 d h.0 (q ∙ sym p))
distinct_entries (e ∷ es) h (suc c) zero word p q = absurd (other_below es e.0 c h.0 (p ∙ sym q))
distinct_entries (e ∷ es) h (suc c) (suc d) word p q = ap suc (distinct_entries es h.1 c d word p q)

add_by : (es : Entries) (e : Key × Form) (k : Key) (form : Form) (b : Bool) → b ≡ same_key k e.0 → ((c : ℕ) → ¬ IsClassName (classes_from (e ∷ es)) k.now c)
    → insert_entry same_key es k form ≡ es ++ (k, form) ∷ [] → insert_entry same_key (e ∷ es) k form ≡ e ∷ es ++ (k, form) ∷ []
add_by es e k form true is new rest = absurd (new 0 (ap (λ (w : List ℕ). Some w) (sym (same_text k.now e.0.now is))))
add_by es e k form false is new rest = rw (← is) (ap (λ (more : Entries). e ∷ more) rest)

pub add_new : (es : Entries) (k : Key) (form : Form) → ((c : ℕ) → ¬ IsClassName (classes_from es) k.now c) → insert_entry same_key es k form ≡ es ++ (k, form) ∷ []
add_new [] k form new = refl
add_new (e ∷ es) k form new = add_by es e k form (same_key k e.0) refl new (add_new es k form (λ c. new (suc c)))

pub classes_add : (es fs : Entries) (k : Key) (form : Form) → ((c : ℕ) → ¬ IsClassName (classes_from es) k.now c) → fs ≡ insert_entry same_key es k form
    → classes_from fs ≡ classes_from es ++ class_named k.now form ∷ []
classes_add es fs k form new e = ap classes_from (e ∙ add_new es k form new) ∙ map-append (λ (x : Key × Form). class_named x.0.now x.1) es ((k, form) ∷ [])

-- ---- names among classes

pub class_name : (classes : List Class) (c : ℕ) (class : Class) (word : List ℕ) → slice_get classes c ≡ Some class → class.name ≡ word → IsClassName classes word c
class_name classes c class word there named =
    slice_get-map (λ (k : Class). k.name) classes c ∙ ap (option_map (λ (k : Class). k.name)) there ∙ ap (λ (w : List ℕ). Some w) named

pub name_of_class : (classes : List Class) (c : ℕ) (word : List ℕ) → IsClassName classes word c → (class : Class) × (slice_get classes c ≡ Some class) × (class.name ≡ word)
name_of_class [] c word named = absurd cc
name_of_class (k ∷ ks) zero word named = (k, refl, same_Some k.name word named)
name_of_class (k ∷ ks) (suc c) word named = name_of_class ks c word named

-- ---- a line and the classes above it

pub twice : (classes : List Class) (line : Sentence) (name : List ℕ) (shape : Shape) (r : Option ℕ) → line ≡ Declares name shape → IfSome r (StandsFor classes name) → is_some r ≡ true → Misnames classes line
twice classes line name shape None e found s = absurd cc
twice classes line name shape (Some i) e found s = inl (name, shape, i, e, found.named)

pub not_fit : (classes : List Class) (maker : Maker) (name : List ℕ) (form : Form) (v w : Bool) → HaveOwnNames classes → IsNamed classes name form
    → v ≡ is_vector (shape_in form).kind → w ≡ wants_vector maker → (v ≡ w → ⊥) → (c : ℕ) → ¬ IsFit classes maker name c
not_fit classes maker name form v w distinct named ev ew other c fit =
    let same : c ≡ named.0 = distinct c named.0 name (class_name classes c fit.class name fit.there fit.named) named.1.named in
    let class : fit.class ≡ class_named name form = same_Some _ _ (sym fit.there ∙ ap (λ (k : ℕ). slice_get classes k) same ∙ named.2) in
    let kind : is_vector fit.class.shape.kind ≡ is_vector (shape_in form).kind = ap (λ (k : Class). is_vector k.shape.kind) class in
    other (ev ∙ sym kind ∙ fit.fits ∙ sym ew)

pub is_fit : (classes : List Class) (maker : Maker) (name : List ℕ) (form : Form) → (named : IsNamed classes name form) → is_vector (shape_in form).kind ≡ wants_vector maker → IsFit classes maker name named.0
is_fit classes maker name form named same = record { class = class_named name form; there = named.2; named = refl; fits = same }

differ : (v w : Bool) → not (beq v w) ≡ true → v ≡ w → ⊥
differ true true h e = absurd cc
differ false false h e = absurd cc
differ true false h e = absurd cc
differ false true h e = absurd cc

agree : (v w : Bool) → not (beq v w) ≡ false → v ≡ w
agree true true h = refl
agree false false h = refl
agree true false h = absurd cc
agree false true h = absurd cc

pub make_wrong : (classes : List Class) (line : Sentence) (maker : Maker) (r : ℕ) (name : List ℕ) (form : Form) (v w : Bool) → line ≡ Makes maker r name → HaveOwnNames classes → IsNamed classes name form
    → v ≡ is_vector (shape_in form).kind → w ≡ wants_vector maker → not (beq v w) ≡ true → Misnames classes line
make_wrong classes line maker r name form v w e distinct named ev ew h = inr (maker, r, name, e, not_fit classes maker name form v w distinct named ev ew (differ v w h))

pub make_right : (classes : List Class) (line : Sentence) (maker : Maker) (r : ℕ) (name : List ℕ) (form : Form) (v w : Bool) → line ≡ Makes maker r name → IsNamed classes name form
    → v ≡ is_vector (shape_in form).kind → w ≡ wants_vector maker → not (beq v w) ≡ false → ¬ Misnames classes line
make_right classes line maker r name form v w e named ev ew h (inl m) = let f = m.3 in absurd cc
make_right classes line maker r name form v w e named ev ew h (inr m) =
    let f = m.3 in
    let same_maker : maker ≡ m.0 = cc in
    let same_name : name ≡ m.2 = cc in
    let fit : IsFit classes maker name named.0 = is_fit classes maker name form named (sym ev ∙ agree v w h ∙ ew) in
    m.4 named.0 (rw (← same_maker, ← same_name) fit)

pub make_unknown : (classes : List Class) (line : Sentence) (maker : Maker) (r : ℕ) (name : List ℕ) → line ≡ Makes maker r name → ((c : ℕ) → ¬ IsClassName classes name c) → Misnames classes line
make_unknown classes line maker r name e none = inr (maker, r, name, e, λ c fit. none c (class_name classes c fit.class name fit.there fit.named))

pub not_named : (classes : List Class) (line : Sentence) (name : List ℕ) (shape : Shape) → line ≡ Declares name shape → ¬ Misnames classes line → (c : ℕ) → ¬ IsClassName classes name c
not_named classes line name shape e right c named = right (inl (name, shape, c, e, named))

pub pair_named : (classes : List Class) (name : List ℕ) (form : Form) (b : Bool) → HaveOwnNames classes → IsNamed classes name form → IsTrue b ↔ ((shape_in form).kind ≡ Ephemeron) → IsTrue b ↔ IsPairClass classes name
pair_named classes name form b distinct named told = (
  λ yes. (named.0, class_named name form, named.2, refl, told.0 yes),
  λ pair.
      let same : pair.0 ≡ named.0 = distinct pair.0 named.0 name (class_name classes pair.0 pair.1 name pair.2 pair.3) named.1.named in
      let class : pair.1 ≡ class_named name form = same_Some _ _ (sym pair.2 ∙ ap (λ (k : ℕ). slice_get classes k) same ∙ named.2) in
      told.1 (sym (ap (λ (k : Class). k.shape.kind) class) ∙ pair.4),
)

pub no_pair : (classes : List Class) (name : List ℕ) → ((c : ℕ) → ¬ IsClassName classes name c) → ¬ IsPairClass classes name
no_pair classes name none pair = none pair.0 (class_name classes pair.0 pair.1 name pair.2 pair.3)
