-- No line of a generated text misnames the class, or says what comes later.
use Rattle.std.proofs.Common.{◌≡◌, ℕ, zero, suc, ◌<◌, Bool, true, false, Option, Some, None, List, [], ◌∷◌, ◌++◌, map, refl, sym, ap, ◌∙◌, inl, inr, codes, append-nil}
use Rattle.std.specs.Prelude.{slice_get}
use Rattle.std.specs.List.{AllByRecursion}
use Rattle.std.proofs.lemmas.List.Concat.{flat_map-append}
use Rattle.sg_desc.specs.declared.shapes.Descriptor.{Descriptor}
use Rattle.sg_desc.specs.declared.shapes.Descriptor.TheVariants.{Bitmap, Ephemeron}
use Rattle.sg_program.specs.declared.program.Class.{Class}
use Rattle.sg_program.specs.declared.program.Statement.TheVariants.{New, NewV, Mature, Put, Get, PutD, GetD, Num, Move, Hide, Unhide, Drop, Push, Pop, GPut, GGet, WSet, WGet, Final, NextFin, Same, Collect, Sections}
use Rattle.sg_program.specs.Limits.{most_fields}
use Rattle.sg_text.specs.Lines.{Maker, Sentence, Heads, Sets, Declares, Begins, Repeats, Ends, Makes, Says, AsNew, AsVector, AsMature}
use Rattle.sg_limits.specs.Faults.{IsMisnamed, IsLater, Wide, LinkSet, LinkGet, Registers, Ready, PairOf, OldPairOf, IsPairClass, classes_in, class_in, wants_vector}
use Rattle.sg_gen.specs.declared.generated.Move.{Move as Drawn}
use Rattle.sg_load.specs.Generated.{node}
use Rattle.sg_accepted.proofs.MoveLines.{says_all, says_settings, says_class}
use Rattle.sg_accepted.proofs.Programs.{says_program}
use Rattle.sg_accepted.proofs.Limits.{NoneBehind, both, IsBodyLine, AreSmall, body_lines}

-- above these lines the class is declared
abbrev pub KnowsNode : List Sentence → Type 0
KnowsNode before = classes_in before ≡ node ∷ []

declares_none : (s : Sentence) → IsBodyLine s → class_in s ≡ []
declares_none Begins is = refl
declares_none Ends is = refl
declares_none (Makes AsNew r name) is = refl
declares_none (Says s) is = refl
declares_none Heads is = elim is [ ]
declares_none (Sets setting n) is = elim is [ ]
declares_none (Declares name shape) is = elim is [ ]
declares_none (Repeats times) is = elim is [ ]
declares_none (Makes (AsVector count) r name) is = elim is [ ]
declares_none (Makes AsMature r name) is = elim is [ ]

still_known : (before : List Sentence) (s : Sentence) → IsBodyLine s → KnowsNode before → KnowsNode (before ++ s ∷ [])
still_known before s is known =
    flat_map-append class_in before (s ∷ []) ∙ ap (λ (cs : List Class). classes_in before ++ (cs ++ [])) (declares_none s is) ∙ append-nil (classes_in before) ∙ known

module _ (Fault : List Sentence → Sentence → Type 0) (none : (before : List Sentence) (s : Sentence) → KnowsNode before → IsBodyLine s → ¬ Fault before s) where
  pub none_in_body : (before ss : List Sentence) → KnowsNode before → AllByRecursion IsBodyLine ss → NoneBehind Fault before ss
  none_in_body before [] known all = tt
  none_in_body before (s ∷ ss) known (one, all) = (none before s known one, none_in_body (before ++ s ∷ []) ss (still_known before s one known) all)

abbrev maker_in : Sentence → Maker
maker_in (Makes maker r name) = maker
maker_in s = AsNew

abbrev name_in : Sentence → List ℕ
name_in (Makes maker r name) = name
name_in s = []

-- which lines declare a class or name one
abbrev pub declares : Sentence → Bool
declares (Declares name shape) = true
declares s = false

abbrev pub makes : Sentence → Bool
makes (Makes maker r name) = true
makes s = false

neither : (before : List Sentence) (s : Sentence) → declares s ≡ false → makes s ≡ false → ¬ IsMisnamed before s
neither before s d m f = elim f [
  | inl x ↦ let clash : true ≡ false = sym (ap declares x.3) ∙ d in absurd cc
  | inr x ↦ let clash : true ≡ false = sym (ap makes x.3) ∙ m in absurd cc
]

named : (before : List Sentence) (r : ℕ) (name : List ℕ) → KnowsNode before → name ≡ codes "Node" → ¬ IsMisnamed before (Makes AsNew r name)
named before r name known is f = elim f [
  | inl x ↦ let clash : false ≡ true = ap declares x.3 in absurd cc
  | inr x ↦ x.4 0 (record {
    class = node;
    there = ap (λ (cs : List Class). slice_get cs 0) known;
    named = sym is ∙ ap name_in x.3;
    fits = ap wants_vector (ap maker_in x.3);
  })
]

not_misnamed : (before : List Sentence) (s : Sentence) → KnowsNode before → IsBodyLine s → ¬ IsMisnamed before s
not_misnamed before Begins known is = neither before Begins refl refl
not_misnamed before Ends known is = neither before Ends refl refl
not_misnamed before (Makes AsNew r name) known is = named before r name known is
not_misnamed before (Says s) known is = neither before (Says s) refl refl
not_misnamed before Heads known is = elim is [ ]
not_misnamed before (Sets setting n) known is = elim is [ ]
not_misnamed before (Declares name shape) known is = elim is [ ]
not_misnamed before (Repeats times) known is = elim is [ ]
not_misnamed before (Makes (AsVector count) r name) known is = elim is [ ]
not_misnamed before (Makes AsMature r name) known is = elim is [ ]

-- what is said of a line that comes later
abbrev LaterLine : List Sentence → Sentence → Type 0
LaterLine before (Makes AsNew r name) = IsPairClass (classes_in before) name
LaterLine before (Makes AsMature r name) = IsPairClass (classes_in before) name
LaterLine before (Makes (AsVector count) r name) = most_fields < count
LaterLine before (Says (WSet w r long)) = Unit {0}
LaterLine before (Says (WGet r w)) = Unit {0}
LaterLine before (Says (Final r)) = Unit {0}
LaterLine before (Says (NextFin r)) = Unit {0}
LaterLine before s = ⊥

later_line : (before : List Sentence) (s : Sentence) → IsLater before s → LaterLine before s
later_line before s (Wide count r name many) = many
later_line before s (LinkSet w r long) = tt
later_line before s (LinkGet r w) = tt
later_line before s (Registers r) = tt
later_line before s (Ready r) = tt
later_line before s (PairOf r name is) = is
later_line before s (OldPairOf r name is) = is

abbrev kind_in : Option Class → Descriptor
kind_in None = Bitmap 3
kind_in (Some class) = class.shape.kind

at_node : (c : ℕ) → kind_in (slice_get (node ∷ []) c) ≡ Bitmap 3
at_node zero = refl
at_node (suc c) = refl

no_pair : (before : List Sentence) (name : List ℕ) → KnowsNode before → ¬ IsPairClass (classes_in before) name
no_pair before name known (c, class, there, is, pair) =
    let clash : Ephemeron ≡ Bitmap 3 = sym pair ∙ sym (ap kind_in there) ∙ ap (λ (cs : List Class). kind_in (slice_get cs c)) known ∙ at_node c in
    absurd cc

not_later : (before : List Sentence) (s : Sentence) → KnowsNode before → IsBodyLine s → ¬ IsLater before s
not_later before Begins known is f = later_line before Begins f
not_later before Ends known is f = later_line before Ends f
not_later before (Makes AsNew r name) known is f = no_pair before name known (later_line before (Makes AsNew r name) f)
not_later before (Says (Num d n)) known is f = later_line before (Says (Num d n)) f
not_later before (Says (PutD r i s)) known is f = later_line before (Says (PutD r i s)) f
not_later before (Says (GetD d r i)) known is f = later_line before (Says (GetD d r i)) f
not_later before (Says (Put r i s)) known is f = later_line before (Says (Put r i s)) f
not_later before (Says (Get d r i)) known is f = later_line before (Says (Get d r i)) f
not_later before (Says (Drop r)) known is f = later_line before (Says (Drop r)) f
not_later before (Says (GPut g r)) known is f = later_line before (Says (GPut g r)) f
not_later before (Says (GGet r g)) known is f = later_line before (Says (GGet r g)) f
not_later before (Says (New r class)) known is f = is
not_later before (Says (NewV r class count)) known is f = is
not_later before (Says (Mature r class)) known is f = is
not_later before (Says (Move d s)) known is f = is
not_later before (Says (Hide d s o)) known is f = is
not_later before (Says (Unhide d s)) known is f = is
not_later before (Says (Push r)) known is f = is
not_later before (Says (Pop r)) known is f = is
not_later before (Says (WSet w r long)) known is f = is
not_later before (Says (WGet r w)) known is f = is
not_later before (Says (Final r)) known is f = is
not_later before (Says (NextFin r)) known is f = is
not_later before (Says (Same r s)) known is f = is
not_later before (Says (Collect major)) known is f = is
not_later before (Says Sections) known is f = is
not_later before Heads known is f = is
not_later before (Sets setting n) known is f = is
not_later before (Declares name shape) known is f = is
not_later before (Repeats times) known is f = is
not_later before (Makes (AsVector count) r name) known is f = is
not_later before (Makes AsMature r name) known is f = is

-- the head, the settings and the class
no_class_yet : (before : List Sentence) (name : List ℕ) → classes_in before ≡ [] → ¬ IsMisnamed before (Declares name (record { fields = 3; kind = Bitmap 3 }))
no_class_yet before name none f = elim f [
  | inl x ↦ let clash = sym (ap (λ (cs : List Class). slice_get (map (λ (class : Class). class.name) cs) x.2) none) ∙ x.4 in absurd cc
  | inr x ↦ let clash : false ≡ true = ap makes x.3 in absurd cc
]

neither_in : (before ss : List Sentence) → AllByRecursion (λ (s : Sentence). (declares s ≡ false) × (makes s ≡ false)) ss → NoneBehind IsMisnamed before ss
neither_in before [] all = tt
neither_in before (s ∷ ss) (one, all) = (neither before s one.0 one.1, neither_in (before ++ s ∷ []) ss all)

misnamed_front : NoneBehind IsMisnamed [] (Heads ∷ says_settings ++ says_class)
misnamed_front =
    both IsMisnamed [] (Heads ∷ says_settings) says_class
    (neither_in [] (Heads ∷ says_settings) ((refl, refl), ((refl, refl), ((refl, refl), ((refl, refl), ((refl, refl), ((refl, refl), ((refl, refl), tt))))))))
    (no_class_yet (Heads ∷ says_settings) (codes "Node") refl, tt)

abbrev IsEarly : Sentence → Type 0
IsEarly Heads = Unit {0}
IsEarly (Sets setting n) = Unit {0}
IsEarly (Declares name shape) = Unit {0}
IsEarly s = ⊥

early : (before : List Sentence) (s : Sentence) → IsEarly s → ¬ IsLater before s
early before Heads is f = later_line before Heads f
early before (Sets setting n) is f = later_line before (Sets setting n) f
early before (Declares name shape) is f = later_line before (Declares name shape) f
early before Begins is f = is
early before Ends is f = is
early before (Repeats times) is f = is
early before (Makes maker r name) is f = is
early before (Says s) is f = is

early_in : (before ss : List Sentence) → AllByRecursion IsEarly ss → NoneBehind IsLater before ss
early_in before [] all = tt
early_in before (s ∷ ss) (one, all) = (early before s one, early_in (before ++ s ∷ []) ss all)

later_front : NoneBehind IsLater [] (Heads ∷ says_settings ++ says_class)
later_front = early_in [] (Heads ∷ says_settings ++ says_class) (tt, (tt, (tt, (tt, (tt, (tt, (tt, (tt, tt))))))))

pub none_misnamed : (mss : List (List Drawn)) → AreSmall mss → NoneBehind IsMisnamed [] (says_program mss)
none_misnamed mss small =
    both IsMisnamed [] (Heads ∷ says_settings ++ says_class) (says_all mss) misnamed_front
    (none_in_body IsMisnamed not_misnamed (Heads ∷ says_settings ++ says_class) (says_all mss) refl (body_lines mss small))

pub none_later : (mss : List (List Drawn)) → AreSmall mss → NoneBehind IsLater [] (says_program mss)
none_later mss small =
    both IsLater [] (Heads ∷ says_settings ++ says_class) (says_all mss) later_front
    (none_in_body IsLater not_later (Heads ∷ says_settings ++ says_class) (says_all mss) refl (body_lines mss small))
