-- From what lines say to which line is refused first.
use Rattle.std.proofs.Common.{◌≡◌, ℕ, zero, suc, ◌+◌, ◌<◌, true, false, Some, List, [], ◌∷◌, ◌++◌, length, take, slice_get, codes, inl, inr, refl, sym, ap, ◌∙◌, subst, arith}
use Rattle.std.proofs.lemmas.List.{map-append, length-take, take-take}
use Rattle.std.proofs.lemmas.Option.{none-some, same_Some}
use Rattle.sg_program.specs.Scripts.{repeated}
use Rattle.sg_text.specs.Words.{is_empty}
use Rattle.sg_text.specs.Lines.{Sentence, Heads, Ends}
use Rattle.sg_text.specs.Numbered.{Numbered, sentences, SayBelow, Say}
use Rattle.sg_text.specs.Reading.{IsNoLine}
use Rattle.sg_text.specs.Laws.{HaveOneSaying}
use Rattle.sg_grammar.specs.Text.{defaults, IsWholeText, IsPrefix, CanGoOn, IsText, MayGoOn, IsFirstRefused}

abbrev pub at : ℕ → Sentence → Numbered
at number sentence = record { number = number; sentence = sentence }

pub sentences-append : (f g : List Numbered) → sentences (f ++ g) ≡ sentences f ++ sentences g
sentences-append f g = map-append (λ (one : Numbered). one.sentence) f g

-- ---- what the parts of lines say

pub split_below : (above : ℕ) (xs ys : List (List ℕ)) (h : List Numbered) → SayBelow above (xs ++ ys) h → (f g : List Numbered) × (h ≡ f ++ g) × SayBelow above xs f × SayBelow (above + length xs) ys g
split_below above [] ys h s = let same : above ≡ above + 0 = omega arith in ([], h, refl, refl, subst (λ (n : ℕ). SayBelow n ys h) same s)
split_below above (x ∷ xs) ys h (p, inl (e, s)) =
    let r = split_below (suc above) xs ys h s in
    let same : suc above + length xs ≡ above + suc (length xs) = omega arith in
    (r.0, r.1, r.2, (p, inl (e, r.3)), subst (λ (n : ℕ). SayBelow n ys r.1) same r.4)
split_below above (x ∷ xs) ys h (p, inr (one, rest, is, e, s)) =
    let r = split_below (suc above) xs ys rest s in
    let same : suc above + length xs ≡ above + suc (length xs) = omega arith in
    (at (suc above) one ∷ r.0, r.1, e ∙ ap (λ (l : List Numbered). at (suc above) one ∷ l) r.2, (p, inr (one, r.0, is, refl, r.3)), subst (λ (n : ℕ). SayBelow n ys r.1) same r.4)

-- the lines `end`
ends_at : ℕ → ℕ → List Numbered
ends_at above zero = []
ends_at above (suc n) = at (suc above) Ends ∷ ends_at (suc above) n

ends_say : (above n : ℕ) → SayBelow above (repeated n (codes "end" ∷ [])) (ends_at above n)
unfolding ends_at
ends_say above zero = refl
ends_say above (suc n) = (refl, inr (Ends, ends_at (suc above) n, refl, refl, ends_say (suc above) n))

ends_are : (above n : ℕ) → sentences (ends_at above n) ≡ repeated n (Ends ∷ [])
unfolding ends_at
ends_are above zero = refl
ends_are above (suc n) = ap (λ (l : List Sentence). Ends ∷ l) (ends_are (suc above) n)

bare_head : IsWholeText (Heads ∷ [])
bare_head = (
  record { config = defaults; classes = []; mutators = [] },
  record {
    settings = [];
    classes = [];
    scripts = [];
    in_order = refl;
    are_settings = record {
      settings = tt;
      once = λ i j setting n m e f. absurd (none-some _ e);
      given = λ setting n c. absurd (omega (arith, c.1));
      else = λ setting none. refl;
    };
    are_classes = tt;
    are_scripts = refl;
  },
)

pub there-below : {A : Type 0} (xs : List A) (j : ℕ) (x : A) → slice_get xs j ≡ Some x → j < length xs
there-below [] j x e = absurd (none-some x e)
there-below (y ∷ ys) zero x e = omega arith
there-below (y ∷ ys) (suc j) x e = let l = there-below ys j x e in omega arith

take_one : {A : Type 0} (xs : List A) (j : ℕ) (x : A) → slice_get xs j ≡ Some x → take (suc j) xs ≡ take j xs ++ x ∷ []
take_one [] j x e = absurd (none-some x e)
take_one (y ∷ ys) zero x e = let same : y ≡ x = same_Some y x e in ap (λ z. z ∷ []) same
take_one (y ∷ ys) (suc j) x e = ap (λ (l : List _). y ∷ l) (take_one ys j x e)

-- a sentence is on the line with its number: what stands above that line says the sentences before it
pub record IsOn (above : ℕ) (lines : List (List ℕ)) (found : List Numbered) (i : ℕ) (one : Numbered) : Type 0 where
  pub j : ℕ
  pub number : one.number ≡ suc (above + j)
  pub within : j < length lines
  pub before : SayBelow above (take j lines) (take i found)
  pub up_to : SayBelow above (take (suc j) lines) (take (suc i) found)

pub is_on : (above : ℕ) (lines : List (List ℕ)) (found : List Numbered) (i : ℕ) (one : Numbered) → SayBelow above lines found → slice_get found i ≡ Some one → IsOn above lines found i one
is_on above [] found i one s e = absurd (none-some one (ap (λ (l : List Numbered). slice_get l i) (sym s) ∙ e))
is_on above (x ∷ xs) found i one (p, inl (w, s)) e =
    let r = is_on (suc above) xs found i one s e in
    let number = r.number in
    let within = r.within in
    record { j = suc r.j; number = omega (arith, number); within = omega (arith, within); before = (p, inl (w, r.before)); up_to = (p, inl (w, r.up_to)) }
is_on above (x ∷ xs) found zero one (p, inr (says, rest, is, w, s)) e =
    let same : at (suc above) says ≡ one = same_Some (at (suc above) says) one (ap (λ (l : List Numbered). slice_get l 0) (sym w) ∙ e) in
    let number : suc above ≡ one.number = ap (λ (n : Numbered). n.number) same in
    record { j = 0; number = omega (arith, number); within = omega arith; before = refl; up_to = (p, inr (says, [], is, ap (take 1) w, refl)) }
is_on above (x ∷ xs) found (suc i) one (p, inr (says, rest, is, w, s)) e =
    let r = is_on (suc above) xs rest i one s (ap (λ (l : List Numbered). slice_get l (suc i)) (sym w) ∙ e) in
    let number = r.number in
    let within = r.within in
    record {
      j = suc r.j;
      number = omega (arith, number);
      within = omega (arith, within);
      before = (p, inr (says, take i rest, is, ap (take (suc i)) w, r.before));
      up_to = (p, inr (says, take (suc i) rest, is, ap (take (suc (suc i))) w, r.up_to));
    }

-- a line that no text has stands in no text
no_line : (above : ℕ) (line : List ℕ) (g : List Numbered) → IsNoLine line → SayBelow above (line ∷ []) g → ⊥
no_line above line g (inl improper) (p, more) = let e : true ≡ false = sym p ∙ improper in cc
no_line above line g (inr (some, none)) (p, inl (w, s)) = let e : true ≡ false = ap (λ (ws : List (List ℕ)). is_empty ws) (sym w) ∙ some in cc
no_line above line g (inr (some, none)) (p, inr (says, rest, is, w, s)) = none says is

module _ (law : HaveOneSaying) where
  -- a text may begin with lines that say the beginning of one
  pub may_go_on : (lines : List (List ℕ)) (found : List Numbered) → Say lines found → IsPrefix (sentences found) → MayGoOn lines
  may_go_on lines found say (inl none) =
      let head = at (suc (length lines)) Heads in
      let whole : IsWholeText (sentences (found ++ head ∷ [])) = subst IsWholeText (sym (sentences-append found (head ∷ []) ∙ ap (λ (l : List Sentence). l ++ Heads ∷ []) none)) bare_head in
      (codes "sgen 1" ∷ [], (found ++ head ∷ [], (law.append lines (codes "sgen 1" ∷ []) found (head ∷ []) say (refl, inr (Heads, [], refl, refl, refl)), whole)))
  may_go_on lines found say (inr (n, whole)) =
      let ends = ends_at (length lines) n in
      let same : sentences (found ++ ends) ≡ sentences found ++ repeated n (Ends ∷ []) = sentences-append found ends ∙ ap (λ (l : List Sentence). sentences found ++ l) (ends_are (length lines) n) in
      (repeated n (codes "end" ∷ []), (found ++ ends, (law.append lines (repeated n (codes "end" ∷ [])) found ends say (ends_say (length lines) n), subst IsWholeText (sym same) whole)))

  -- lines that say what is no text are no text
  not_text : (lines : List (List ℕ)) (found : List Numbered) → Say lines found → ¬ IsWholeText (sentences found) → ¬ IsText lines
  not_text lines found say bad (other, (said, whole)) = bad (subst (λ (l : List Numbered). IsWholeText (sentences l)) (law.one lines other found said say) whole)

  -- lines that say what no text begins with are no prefix of a text
  no_prefix : (lines : List (List ℕ)) (found : List Numbered) → Say lines found → ¬ CanGoOn (sentences found) → ¬ MayGoOn lines
  no_prefix lines found say bad (more, (other, (said, whole))) =
      let parts = split_below 0 lines more other said in
      let same : parts.0 ≡ found = law.one lines parts.0 found parts.3 say in
      bad (sentences parts.1, subst IsWholeText (ap (λ (l : List Numbered). sentences l) parts.2 ∙ sentences-append parts.0 parts.1 ∙ ap (λ (l : List Numbered). sentences l ++ sentences parts.1) same) whole)

  -- the sentence with which the beginning of a text ends is on the first line that the grammar refuses
  pub refused_misplaced : (lines : List (List ℕ)) (found : List Numbered) (i : ℕ) (one : Numbered) → Say lines found → slice_get found i ≡ Some one →
      IsPrefix (sentences (take i found)) → ¬ CanGoOn (sentences (take (suc i) found)) → IsFirstRefused lines one.number
  refused_misplaced lines found i one say there prefix bad =
      let on = is_on 0 lines found i one say there in
      let number = on.number in
      let here : one.number ≡ suc on.j = omega (arith, number) in
      inl (on.j, here, on.within, may_go_on (take on.j lines) (take i found) on.before prefix, no_prefix (take (suc on.j) lines) (take (suc i) found) on.up_to bad)

  -- the same in the lines above one that no text has
  pub misplaced_above : (lines : List (List ℕ)) (found : List Numbered) (m i : ℕ) (one : Numbered) → Say (take m lines) found → slice_get found i ≡ Some one →
      IsPrefix (sentences (take i found)) → ¬ CanGoOn (sentences (take (suc i) found)) → IsFirstRefused lines one.number
  misplaced_above lines found m i one say there prefix bad =
      let on = is_on 0 (take m lines) found i one say there in
      let number = on.number in
      let within = on.within in
      let here : one.number ≡ suc on.j = omega (arith, number) in
      let below : on.j < m = omega (arith, within, length-take m lines) in
      inl (
        on.j,
        here,
        omega (arith, within, length-take m lines),
        subst MayGoOn (take-take on.j m lines (omega (arith, below))) (may_go_on (take on.j (take m lines)) (take i found) on.before prefix),
        subst (λ (l : List (List ℕ)). ¬ MayGoOn l) (take-take (suc on.j) m lines below) (no_prefix (take (suc on.j) (take m lines)) (take (suc i) found) on.up_to bad),
      )

  -- the line at which the reading ended is the first one that the grammar refuses
  pub refused_line : (lines : List (List ℕ)) (found : List Numbered) (m : ℕ) (line : List ℕ) → slice_get lines m ≡ Some line → IsNoLine line → Say (take m lines) found → IsPrefix (sentences found) → IsFirstRefused lines (suc m)
  refused_line lines found m line there none say prefix =
      inl (
        m,
        refl,
        there-below lines m line there,
        may_go_on (take m lines) found say prefix,
        (λ go.
            let whole = split_below 0 (take (suc m) lines) go.0 go.1.0 go.1.1.0 in
            let last = split_below 0 (take m lines) (line ∷ []) whole.0 (subst (λ (l : List (List ℕ)). SayBelow 0 l whole.0) (take_one lines m line there) whole.3) in
            no_line (0 + length (take m lines)) line last.1 none last.4),
      )

  pub refused_end : (lines : List (List ℕ)) (found : List Numbered) → Say lines found → IsPrefix (sentences found) → ¬ IsWholeText (sentences found) → IsFirstRefused lines (length lines)
  refused_end lines found say prefix bad = inr (refl, may_go_on lines found say prefix, not_text lines found say bad)
