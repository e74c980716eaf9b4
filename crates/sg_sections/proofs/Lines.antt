-- The lines of the first blocks, one block after another.
use Rattle.std.proofs.Common.{◌≡◌, ℕ, ◌+◌, ◌<◌, List, [], ◌∷◌, ◌++◌, length, map, sym, ap, ◌∙◌, subst, inl, inr, arith}
use Rattle.std.proofs.lemmas.Bool.{cases_eq}
use Rattle.std.proofs.lemmas.List.{map_push, get_or-map, length-map}
use Rattle.std.proofs.lemmas.List.Elements.{Contains-append_left, Contains-push, Contains-push_cases, Contains-get_or}
use Rattle.std.specs.List.Sorted.{IsStrictlyIncreasing}
use Rattle.sg_words.specs.declared.steps.BlockWord.TheVariants.{Swept}
use Rattle.sg_words.proofs.Sorted.{increasing_push}
use Rattle.sg_graph.specs.declared.reports.BlockLine.{BlockLine}
use Rattle.sg_graph.specs.Sections.{block_number}
use Rattle.sg_space.specs.Space.{Contents}
use Rattle.sg_space.specs.Standing.{block_in}
use Rattle.sg_sections.specs.Parts.{AreLines, IsLineOf, IsLineAt}

pub no_lines : (s : Contents) → AreLines s 0 []
no_lines s = record {
  in_order = λ k l. absurd (omega arith);
  below = λ line i. absurd (let l = i.1 in omega arith);
  each = λ line i. absurd (let l = i.1 in omega arith);
  all = λ b z l e. absurd (omega arith);
}

-- a block that isn't swept has none
pub passed_block : (s : Contents) (n : ℕ) (lines : List BlockLine) → AreLines s n lines → ((z : ℕ) → block_in s n ≡ Swept z → ⊥) → AreLines s (n + 1) lines
passed_block s n lines h none = record {
  in_order = h.in_order;
  below = λ line i. (let l = h.below line i in omega arith);
  each = h.each;
  all = λ b z l e. elim (cases_eq b n) [
    | inl q ↦ absurd (none z (ap (block_in s) (sym q) ∙ e))
    | inr d ↦ h.all b z (omega arith) e
  ];
}

-- one that is swept has one
pub told_block : (s : Contents) (n : ℕ) (lines : List BlockLine) (line : BlockLine) → AreLines s n lines → IsLineAt s n line → AreLines s (n + 1) (lines ++ line ∷ [])
told_block s n lines line h here =
    let at = here.block in
    record {
      in_order = subst IsStrictlyIncreasing (sym (map_push block_number lines line))
          (increasing_push (map block_number lines) line.block h.in_order (λ x i.
          let lengths = length-map lines block_number in
          let k : i.0 < length lines = (let l = i.1 in omega arith) in
          let is = get_or-map block_number lines i.0 line x k in
          let same = i.2 in
          let l = h.below _ (Contains-get_or lines i.0 line k) in
          omega arith));
      below = λ other i. elim (Contains-push_cases lines line other i) [
        | inl j ↦ (let l = h.below other j in omega arith)
        | inr e ↦ (let f = ap block_number e in omega arith)
      ];
      each = λ other i. elim (Contains-push_cases lines line other i) [
        | inl j ↦ h.each other j
        | inr e ↦ subst (IsLineOf s) e here.of
      ];
      all = λ b z l e. elim (cases_eq b n) [
        | inl q ↦ (line, Contains-push lines line, at ∙ sym q)
        | inr d ↦ (let o = h.all b z (omega arith) e in (o.0, Contains-append_left lines (line ∷ []) o.0 o.1, o.2))
      ];
    }
