-- What is worked out from words is what their line says.
use Rattle.std.proofs.Common.{◌≡◌, ℕ, ◌⊎◌, Bool, true, false, if◌then◌else◌, Option, Some, None, List, [], ◌∷◌, refl, sym, ap, subst, inl, inr, ◌∙◌}
use Rattle.std.specs.Prelude.{codes, IsTrue, IfSome, IfNone}
use Rattle.std.specs.List.{list_all}
use Rattle.std.proofs.lemmas.Option.{none-some, same_Some}
use Rattle.sg_desc.specs.declared.shapes.Shape.{Shape}
use Rattle.sg_text.specs.declared.line.Line.{Line}
use Rattle.sg_text.specs.declared.line.Setting.{Setting}
use Rattle.sg_text.specs.declared.line.Setting.TheVariants.{Nursery, Blocks, Pages, Buffer, Workers, Cement}
use Rattle.sg_text.specs.Reading.{sentence_of}
use Rattle.sg_text.specs.Words.{is_name, is_mask_byte}
use Rattle.sg_text.specs.Lines.{Sentence, Declares, IsShape, setting_name, IsLine}
use Rattle.sg_text.specs.Sentences.{same, of_one, of_two, of_three, said, shape_alone, mask_shape, shape_of_two, shape_of_four, if_named, class_line, one_word, pause, head, setting_in, on_register, two_words, on_cell, on_two, three_words, link, on_field, four_words, six_words, sentence_in}
use Rattle.sg_text.proofs.SentenceLemmas.{same_true, number_found, register_found, line_reads}

-- the branch that was taken
either : {A : Type 0} (b : Bool) (x y z : A) → (if b then x else y) ≡ z → ((b ≡ true) × (x ≡ z)) ⊎ ((b ≡ false) × (y ≡ z))
either true x y z e = inl (refl, e)
either false x y z e = inr (refl, e)

one_found : {A C : Type 0} (o : Option A) (f : A → C) (s : C) → of_one o f ≡ Some s → (x : A) × (o ≡ Some x) × (f x ≡ s)
one_found None f s e = absurd (none-some s e)
one_found (Some x) f s e = (x, refl, same_Some (f x) s e)

two_found : {A B C : Type 0} (o : Option A) (p : Option B) (f : A → B → C) (s : C) → of_two o p f ≡ Some s → (x : A) × (y : B) × (o ≡ Some x) × (p ≡ Some y) × (f x y ≡ s)
two_found None p f s e = absurd (none-some s e)
two_found (Some x) p f s e = let h = one_found p (f x) s e in (x, h.0, refl, h.1, h.2)

three_found : {A B C D : Type 0} (o : Option A) (p : Option B) (q : Option C) (f : A → B → C → D) (s : D) → of_three o p q f ≡ Some s → (x : A) × (y : B) × (z : C) × (o ≡ Some x) × (p ≡ Some y) × (q ≡ Some z) × (f x y z ≡ s)
three_found None p q f s e = absurd (none-some s e)
three_found (Some x) p q f s e = let h = two_found p q (f x) s e in (x, h.0, h.1, refl, h.2, h.3, h.4)

named_found : (name : List ℕ) (o : Option Sentence) (s : Sentence) → if_named name o ≡ Some s → IsTrue (is_name name) × (o ≡ Some s)
named_found name o s e = elim (either (is_name name) o None (Some s) e) [ inl h ↦ (h.0, h.1) | inr h ↦ absurd (none-some s h.1) ]

one_word_found : (v : List ℕ) (s : Sentence) → one_word v ≡ Some s → IsLine (v ∷ []) s
unfolding one_word
one_word_found v s e =
    elim (either (same v (codes "mutator")) _ _ _ e) [
      | inl h0 ↦ subst (IsLine (v ∷ [])) (same_Some _ s h0.1) (ap (λ (u : List ℕ). u ∷ []) (same_true v (codes "mutator") h0.0))
      | inr h0 ↦ elim (either (same v (codes "end")) _ _ _ h0.1) [
        | inl h1 ↦ subst (IsLine (v ∷ [])) (same_Some _ s h1.1) (ap (λ (u : List ℕ). u ∷ []) (same_true v (codes "end") h1.0))
        | inr h1 ↦ elim (either (same v (codes "sections")) _ _ _ h1.1) [
          | inl h2 ↦ subst (IsLine (v ∷ [])) (same_Some _ s h2.1) (ap (λ (u : List ℕ). u ∷ []) (same_true v (codes "sections") h2.0))
          | inr h2 ↦ absurd (none-some s h2.1)
        ]
      ]
    ]

setting_found : (v : List ℕ) (setting : Setting) → setting_in v ≡ Some setting → v ≡ setting_name setting
unfolding setting_in
setting_found v setting e =
    elim (either (same v (codes "nursery")) _ _ _ e) [
      | inl h0 ↦ same_true v (codes "nursery") h0.0 ∙ ap setting_name (same_Some Nursery setting h0.1)
      | inr h0 ↦ elim (either (same v (codes "blocks")) _ _ _ h0.1) [
        | inl h1 ↦ same_true v (codes "blocks") h1.0 ∙ ap setting_name (same_Some Blocks setting h1.1)
        | inr h1 ↦ elim (either (same v (codes "pages")) _ _ _ h1.1) [
          | inl h2 ↦ same_true v (codes "pages") h2.0 ∙ ap setting_name (same_Some Pages setting h2.1)
          | inr h2 ↦ elim (either (same v (codes "buffer")) _ _ _ h2.1) [
            | inl h3 ↦ same_true v (codes "buffer") h3.0 ∙ ap setting_name (same_Some Buffer setting h3.1)
            | inr h3 ↦ elim (either (same v (codes "workers")) _ _ _ h3.1) [
              | inl h4 ↦ same_true v (codes "workers") h4.0 ∙ ap setting_name (same_Some Workers setting h4.1)
              | inr h4 ↦ elim (either (same v (codes "cement")) _ _ _ h4.1) [
                | inl h5 ↦ same_true v (codes "cement") h5.0 ∙ ap setting_name (same_Some Cement setting h5.1)
                | inr h5 ↦ absurd (none-some setting h5.1)
              ]
            ]
          ]
        ]
      ]
    ]

on_register_found : (v a : List ℕ) (s : Sentence) → on_register v a ≡ Some s → IsLine (v ∷ a ∷ []) s
unfolding on_register
on_register_found v a s e =
    elim (either (same v (codes "drop")) _ _ _ e) [
      | inl h0 ↦ let p = one_found _ _ s h0.1 in subst (IsLine (v ∷ a ∷ [])) p.2 (a, ap (λ (u : List ℕ). u ∷ a ∷ []) (same_true v (codes "drop") h0.0), register_found a p.0 p.1)
      | inr h0 ↦ elim (either (same v (codes "push")) _ _ _ h0.1) [
        | inl h1 ↦ let p = one_found _ _ s h1.1 in subst (IsLine (v ∷ a ∷ [])) p.2 (a, ap (λ (u : List ℕ). u ∷ a ∷ []) (same_true v (codes "push") h1.0), register_found a p.0 p.1)
        | inr h1 ↦ elim (either (same v (codes "pop")) _ _ _ h1.1) [
          | inl h2 ↦ let p = one_found _ _ s h2.1 in subst (IsLine (v ∷ a ∷ [])) p.2 (a, ap (λ (u : List ℕ). u ∷ a ∷ []) (same_true v (codes "pop") h2.0), register_found a p.0 p.1)
          | inr h2 ↦ elim (either (same v (codes "final")) _ _ _ h2.1) [
            | inl h3 ↦ let p = one_found _ _ s h3.1 in subst (IsLine (v ∷ a ∷ [])) p.2 (a, ap (λ (u : List ℕ). u ∷ a ∷ []) (same_true v (codes "final") h3.0), register_found a p.0 p.1)
            | inr h3 ↦ elim (either (same v (codes "nextfin")) _ _ _ h3.1) [
              | inl h4 ↦ let p = one_found _ _ s h4.1 in subst (IsLine (v ∷ a ∷ [])) p.2 (a, ap (λ (u : List ℕ). u ∷ a ∷ []) (same_true v (codes "nextfin") h4.0), register_found a p.0 p.1)
              | inr h4 ↦ let p = two_found _ _ _ s h4.1 in subst (IsLine (v ∷ a ∷ [])) p.4 (a, ap (λ (u : List ℕ). u ∷ a ∷ []) (setting_found v p.0 p.2), number_found a p.1 p.3)
            ]
          ]
        ]
      ]
    ]

on_pause : (v a : List ℕ) (s : Sentence) → same v (codes "collect") ≡ true → pause a ≡ Some s → IsLine (v ∷ a ∷ []) s
unfolding pause
on_pause v a s is e =
    elim (either (same a (codes "minor")) _ _ _ e) [
      | inl h0 ↦ let first = same_true v (codes "collect") is in let last = same_true a (codes "minor") h0.0 in subst (IsLine (v ∷ a ∷ [])) (same_Some _ s h0.1) (rw (first, last) refl)
      | inr h0 ↦ elim (either (same a (codes "major")) _ _ _ h0.1) [
        | inl h1 ↦ let first = same_true v (codes "collect") is in let last = same_true a (codes "major") h1.0 in subst (IsLine (v ∷ a ∷ [])) (same_Some _ s h1.1) (rw (first, last) refl)
        | inr h1 ↦ absurd (none-some s h1.1)
      ]
    ]

on_head : (v a : List ℕ) (s : Sentence) → same v (codes "sgen") ≡ true → head a ≡ Some s → IsLine (v ∷ a ∷ []) s
unfolding head
on_head v a s is e =
    elim (either (same a (codes "1")) _ _ _ e) [
      | inl h0 ↦ let first = same_true v (codes "sgen") is in let last = same_true a (codes "1") h0.0 in subst (IsLine (v ∷ a ∷ [])) (same_Some _ s h0.1) (rw (first, last) refl)
      | inr h0 ↦ absurd (none-some s h0.1)
    ]

two_words_found : (v a : List ℕ) (s : Sentence) → two_words v a ≡ Some s → IsLine (v ∷ a ∷ []) s
unfolding two_words
two_words_found v a s e =
    elim (either (same v (codes "sgen")) _ _ _ e) [
      | inl h0 ↦ on_head v a s h0.0 h0.1
      | inr h0 ↦ elim (either (same v (codes "repeat")) _ _ _ h0.1) [
        | inl h1 ↦ let p = one_found _ _ s h1.1 in subst (IsLine (v ∷ a ∷ [])) p.2 (a, ap (λ (u : List ℕ). u ∷ a ∷ []) (same_true v (codes "repeat") h1.0), number_found a p.0 p.1)
        | inr h1 ↦ elim (either (same v (codes "collect")) _ _ _ h1.1) [
          | inl h2 ↦ on_pause v a s h2.0 h2.1
          | inr h2 ↦ on_register_found v a s h2.1
        ]
      ]
    ]

on_cell_found : (v a b : List ℕ) (s : Sentence) → on_cell v a b ≡ Some s → IsLine (v ∷ a ∷ b ∷ []) s
unfolding on_cell
on_cell_found v a b s e =
    elim (either (same v (codes "gput")) _ _ _ e) [
      | inl h0 ↦ let p = two_found _ _ _ s h0.1 in subst (IsLine (v ∷ a ∷ b ∷ [])) p.4 (a, b, ap (λ (u : List ℕ). u ∷ a ∷ b ∷ []) (same_true v (codes "gput") h0.0), number_found a p.0 p.2, register_found b p.1 p.3)
      | inr h0 ↦ elim (either (same v (codes "gget")) _ _ _ h0.1) [
        | inl h1 ↦ let p = two_found _ _ _ s h1.1 in subst (IsLine (v ∷ a ∷ b ∷ [])) p.4 (a, b, ap (λ (u : List ℕ). u ∷ a ∷ b ∷ []) (same_true v (codes "gget") h1.0), register_found a p.0 p.2, number_found b p.1 p.3)
        | inr h1 ↦ elim (either (same v (codes "wget")) _ _ _ h1.1) [
          | inl h2 ↦ let p = two_found _ _ _ s h2.1 in subst (IsLine (v ∷ a ∷ b ∷ [])) p.4 (a, b, ap (λ (u : List ℕ). u ∷ a ∷ b ∷ []) (same_true v (codes "wget") h2.0), register_found a p.0 p.2, number_found b p.1 p.3)
          | inr h2 ↦ absurd (none-some s h2.1)
        ]
      ]
    ]

on_two_found : (v a b : List ℕ) (s : Sentence) → on_two v a b ≡ Some s → IsLine (v ∷ a ∷ b ∷ []) s
unfolding on_two
on_two_found v a b s e =
    elim (either (same v (codes "num")) _ _ _ e) [
      | inl h0 ↦ let p = two_found _ _ _ s h0.1 in subst (IsLine (v ∷ a ∷ b ∷ [])) p.4 (a, b, ap (λ (u : List ℕ). u ∷ a ∷ b ∷ []) (same_true v (codes "num") h0.0), register_found a p.0 p.2, number_found b p.1 p.3)
      | inr h0 ↦ elim (either (same v (codes "move")) _ _ _ h0.1) [
        | inl h1 ↦ let p = two_found _ _ _ s h1.1 in subst (IsLine (v ∷ a ∷ b ∷ [])) p.4 (a, b, ap (λ (u : List ℕ). u ∷ a ∷ b ∷ []) (same_true v (codes "move") h1.0), register_found a p.0 p.2, register_found b p.1 p.3)
        | inr h1 ↦ elim (either (same v (codes "unhide")) _ _ _ h1.1) [
          | inl h2 ↦ let p = two_found _ _ _ s h2.1 in subst (IsLine (v ∷ a ∷ b ∷ [])) p.4 (a, b, ap (λ (u : List ℕ). u ∷ a ∷ b ∷ []) (same_true v (codes "unhide") h2.0), register_found a p.0 p.2, register_found b p.1 p.3)
          | inr h2 ↦ elim (either (same v (codes "same")) _ _ _ h2.1) [
            | inl h3 ↦ let p = two_found _ _ _ s h3.1 in subst (IsLine (v ∷ a ∷ b ∷ [])) p.4 (a, b, ap (λ (u : List ℕ). u ∷ a ∷ b ∷ []) (same_true v (codes "same") h3.0), register_found a p.0 p.2, register_found b p.1 p.3)
            | inr h3 ↦ on_cell_found v a b s h3.1
          ]
        ]
      ]
    ]

class_line_found : (v name : List ℕ) (rest : List (List ℕ)) (o : Option Shape) (s : Sentence) → ((shape : Shape) → o ≡ Some shape → IsShape rest shape) → same v (codes "class") ≡ true → class_line name o ≡ Some s → IsLine (v ∷ name ∷ rest) s
unfolding class_line
class_line_found v name rest o s found is e =
    let named = named_found name _ s e in
    let p = one_found o (Declares name) s named.1 in
    subst (IsLine (v ∷ name ∷ rest)) p.2 (rest, ap (λ (u : List ℕ). u ∷ name ∷ rest) (same_true v (codes "class") is), named.0, found p.0 p.1)

shape_alone_found : (k : List ℕ) (shape : Shape) → shape_alone k ≡ Some shape → IsShape (k ∷ []) shape
unfolding shape_alone
shape_alone_found k shape e =
    elim (either (same k (codes "refs")) _ _ _ e) [
      | inl h0 ↦ subst (IsShape (k ∷ [])) (same_Some _ shape h0.1) (inr (inr (inr (inl ((ap (λ (u : List ℕ). u ∷ []) (same_true k (codes "refs") h0.0), refl, refl))))))
      | inr h0 ↦ elim (either (same k (codes "words")) _ _ _ h0.1) [
        | inl h1 ↦ subst (IsShape (k ∷ [])) (same_Some _ shape h1.1) (inr (inr (inr (inr (inl ((ap (λ (u : List ℕ). u ∷ []) (same_true k (codes "words") h1.0), refl, refl)))))))
        | inr h1 ↦ elim (either (same k (codes "pair")) _ _ _ h1.1) [
          | inl h2 ↦ subst (IsShape (k ∷ [])) (same_Some _ shape h2.1) (inr (inr (inr (inr (inr ((ap (λ (u : List ℕ). u ∷ []) (same_true k (codes "pair") h2.0), refl, refl)))))))
          | inr h2 ↦ absurd (none-some shape h2.1)
        ]
      ]
    ]

mask_found : (k a : List ℕ) (shape : Shape) → same k (codes "map") ≡ true → mask_shape a ≡ Some shape → IsShape (k ∷ a ∷ []) shape
unfolding mask_shape
mask_found k a shape is e =
    elim (either (list_all is_mask_byte a) _ _ _ e) [
      | inl h ↦ subst (IsShape (k ∷ a ∷ [])) (same_Some _ shape h.1) (inr (inr (inl (a, ap (λ (u : List ℕ). u ∷ a ∷ []) (same_true k (codes "map") is), h.0, refl, refl))))
      | inr h ↦ absurd (none-some shape h.1)
    ]

shape_of_two_found : (k a : List ℕ) (shape : Shape) → shape_of_two k a ≡ Some shape → IsShape (k ∷ a ∷ []) shape
unfolding shape_of_two
shape_of_two_found k a shape e =
    elim (either (same k (codes "plain")) _ _ _ e) [
      | inl h0 ↦ let p = one_found _ _ shape h0.1 in subst (IsShape (k ∷ a ∷ [])) p.2 (inl (a, ap (λ (u : List ℕ). u ∷ a ∷ []) (same_true k (codes "plain") h0.0), number_found a p.0 p.1, refl))
      | inr h0 ↦ elim (either (same k (codes "map")) _ _ _ h0.1) [
        | inl h1 ↦ mask_found k a shape h1.0 h1.1
        | inr h1 ↦ absurd (none-some shape h1.1)
      ]
    ]

shape_of_four_found : (k a b c : List ℕ) (shape : Shape) → shape_of_four k a b c ≡ Some shape → IsShape (k ∷ a ∷ b ∷ c ∷ []) shape
unfolding shape_of_four
shape_of_four_found k a b c shape e =
    elim (either (same k (codes "run")) _ _ _ e) [
      | inl h0 ↦ let p = three_found _ _ _ _ shape h0.1 in subst (IsShape (k ∷ a ∷ b ∷ c ∷ [])) p.6 (inr (inl (a, b, c, p.1, p.2, ap (λ (u : List ℕ). u ∷ a ∷ b ∷ c ∷ []) (same_true k (codes "run") h0.0), number_found a p.0 p.3, number_found b p.1 p.4, number_found c p.2 p.5, refl)))
      | inr h0 ↦ absurd (none-some shape h0.1)
    ]

three_words_found : (v a b : List ℕ) (s : Sentence) → three_words v a b ≡ Some s → IsLine (v ∷ a ∷ b ∷ []) s
unfolding three_words
three_words_found v a b s e =
    elim (either (same v (codes "class")) _ _ _ e) [
      | inl h0 ↦ class_line_found v a (b ∷ []) _ s (shape_alone_found b) h0.0 h0.1
      | inr h0 ↦ elim (either (same v (codes "new")) _ _ _ h0.1) [
        | inl h1 ↦ let named = named_found b _ s h1.1 in let p = one_found _ _ s named.1 in subst (IsLine (v ∷ a ∷ b ∷ [])) p.2 ((a, ap (λ (u : List ℕ). u ∷ a ∷ b ∷ []) (same_true v (codes "new") h1.0), register_found a p.0 p.1), named.0)
        | inr h1 ↦ elim (either (same v (codes "mature")) _ _ _ h1.1) [
          | inl h2 ↦ let named = named_found b _ s h2.1 in let p = one_found _ _ s named.1 in subst (IsLine (v ∷ a ∷ b ∷ [])) p.2 ((a, ap (λ (u : List ℕ). u ∷ a ∷ b ∷ []) (same_true v (codes "mature") h2.0), register_found a p.0 p.1), named.0)
          | inr h2 ↦ on_two_found v a b s h2.1
        ]
      ]
    ]

link_found : (v a b c : List ℕ) (s : Sentence) → same v (codes "wset") ≡ true → link a b c ≡ Some s → IsLine (v ∷ a ∷ b ∷ c ∷ []) s
unfolding link
link_found v a b c s is e =
    let first = same_true v (codes "wset") is in
    elim (either (same c (codes "long")) _ _ _ e) [
      | inl h0 ↦ let p = two_found _ _ _ s h0.1 in let last = same_true c (codes "long") h0.0 in subst (IsLine (v ∷ a ∷ b ∷ c ∷ [])) p.4 (a, b, rw (first, last) refl, number_found a p.0 p.2, register_found b p.1 p.3)
      | inr h0 ↦ elim (either (same c (codes "short")) _ _ _ h0.1) [
        | inl h1 ↦ let p = two_found _ _ _ s h1.1 in let last = same_true c (codes "short") h1.0 in subst (IsLine (v ∷ a ∷ b ∷ c ∷ [])) p.4 (a, b, rw (first, last) refl, number_found a p.0 p.2, register_found b p.1 p.3)
        | inr h1 ↦ absurd (none-some s h1.1)
      ]
    ]

on_field_found : (v a b c : List ℕ) (s : Sentence) → on_field v a b c ≡ Some s → IsLine (v ∷ a ∷ b ∷ c ∷ []) s
unfolding on_field
on_field_found v a b c s e =
    elim (either (same v (codes "put")) _ _ _ e) [
      | inl h0 ↦ let p = three_found _ _ _ _ s h0.1 in subst (IsLine (v ∷ a ∷ b ∷ c ∷ [])) p.6 (a, b, c, ap (λ (u : List ℕ). u ∷ a ∷ b ∷ c ∷ []) (same_true v (codes "put") h0.0), register_found a p.0 p.3, number_found b p.1 p.4, register_found c p.2 p.5)
      | inr h0 ↦ elim (either (same v (codes "get")) _ _ _ h0.1) [
        | inl h1 ↦ let p = three_found _ _ _ _ s h1.1 in subst (IsLine (v ∷ a ∷ b ∷ c ∷ [])) p.6 (a, b, c, ap (λ (u : List ℕ). u ∷ a ∷ b ∷ c ∷ []) (same_true v (codes "get") h1.0), register_found a p.0 p.3, register_found b p.1 p.4, number_found c p.2 p.5)
        | inr h1 ↦ elim (either (same v (codes "putd")) _ _ _ h1.1) [
          | inl h2 ↦ let p = three_found _ _ _ _ s h2.1 in subst (IsLine (v ∷ a ∷ b ∷ c ∷ [])) p.6 (a, b, c, ap (λ (u : List ℕ). u ∷ a ∷ b ∷ c ∷ []) (same_true v (codes "putd") h2.0), register_found a p.0 p.3, number_found b p.1 p.4, register_found c p.2 p.5)
          | inr h2 ↦ elim (either (same v (codes "getd")) _ _ _ h2.1) [
            | inl h3 ↦ let p = three_found _ _ _ _ s h3.1 in subst (IsLine (v ∷ a ∷ b ∷ c ∷ [])) p.6 (a, b, c, ap (λ (u : List ℕ). u ∷ a ∷ b ∷ c ∷ []) (same_true v (codes "getd") h3.0), register_found a p.0 p.3, register_found b p.1 p.4, number_found c p.2 p.5)
            | inr h3 ↦ elim (either (same v (codes "hide")) _ _ _ h3.1) [
              | inl h4 ↦ let p = three_found _ _ _ _ s h4.1 in subst (IsLine (v ∷ a ∷ b ∷ c ∷ [])) p.6 (a, b, c, ap (λ (u : List ℕ). u ∷ a ∷ b ∷ c ∷ []) (same_true v (codes "hide") h4.0), register_found a p.0 p.3, register_found b p.1 p.4, number_found c p.2 p.5)
              | inr h4 ↦ absurd (none-some s h4.1)
            ]
          ]
        ]
      ]
    ]

four_words_found : (v a b c : List ℕ) (s : Sentence) → four_words v a b c ≡ Some s → IsLine (v ∷ a ∷ b ∷ c ∷ []) s
unfolding four_words
four_words_found v a b c s e =
    elim (either (same v (codes "class")) _ _ _ e) [
      | inl h0 ↦ class_line_found v a (b ∷ c ∷ []) _ s (shape_of_two_found b c) h0.0 h0.1
      | inr h0 ↦ elim (either (same v (codes "newv")) _ _ _ h0.1) [
        | inl h1 ↦ let named = named_found b _ s h1.1 in let p = two_found _ _ _ s named.1 in subst (IsLine (v ∷ a ∷ b ∷ c ∷ [])) p.4 ((a, c, ap (λ (u : List ℕ). u ∷ a ∷ b ∷ c ∷ []) (same_true v (codes "newv") h1.0), register_found a p.0 p.2, number_found c p.1 p.3), named.0)
        | inr h1 ↦ elim (either (same v (codes "wset")) _ _ _ h1.1) [
          | inl h2 ↦ link_found v a b c s h2.0 h2.1
          | inr h2 ↦ on_field_found v a b c s h2.1
        ]
      ]
    ]

six_words_found : (v a b c d e : List ℕ) (s : Sentence) → six_words v a b c d e ≡ Some s → IsLine (v ∷ a ∷ b ∷ c ∷ d ∷ e ∷ []) s
unfolding six_words
six_words_found v a b c d e s is =
    elim (either (same v (codes "class")) _ _ _ is) [
      | inl h0 ↦ class_line_found v a (b ∷ c ∷ d ∷ e ∷ []) _ s (shape_of_four_found b c d e) h0.0 h0.1
      | inr h0 ↦ absurd (none-some s h0.1)
    ]

pub line_found : (words : List (List ℕ)) (s : Sentence) → sentence_in words ≡ Some s → IsLine words s
unfolding sentence_in
line_found [] s is = absurd (none-some s is)
line_found (v ∷ []) s is = one_word_found v s is
line_found (v ∷ a ∷ []) s is = two_words_found v a s is
line_found (v ∷ a ∷ b ∷ []) s is = three_words_found v a b s is
line_found (v ∷ a ∷ b ∷ c ∷ []) s is = four_words_found v a b c s is
line_found (v ∷ a ∷ b ∷ c ∷ d ∷ []) s is = absurd (none-some s is)
line_found (v ∷ a ∷ b ∷ c ∷ d ∷ e ∷ []) s is = six_words_found v a b c d e s is
line_found (v ∷ a ∷ b ∷ c ∷ d ∷ e ∷ f ∷ fs) s is = absurd (none-some s is)

pub answer_found : (words : List (List ℕ)) (l : Option Line) → said l ≡ sentence_in words → IfSome l (λ x. IsLine words (sentence_of x))
answer_found words None e = tt
answer_found words (Some x) e = line_found words (sentence_of x) (sym e)

pub answer_none : (words : List (List ℕ)) (l : Option Line) → said l ≡ sentence_in words → IfNone l ((s : Sentence) → ¬ IsLine words s)
answer_none words None e = λ s is. none-some s (e ∙ line_reads words s is)
answer_none words (Some x) e = tt
