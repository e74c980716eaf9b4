-- A space before its first object is sound: no word has an owner.
use Rattle.std.proofs.Common.{◌≡◌, ℕ, zero, suc, ◌%◌, ◌<◌, ◌≤◌, List, None, refl, sym, subst, arith, ap, slice_index}
use Rattle.std.proofs.lemmas.List.{get_or-replicate, length-replicate}
use Rattle.std.proofs.lemmas.Option.{none-some}
use Rattle.std.proofs.lemmas.Nat.Bits.{bit_at-zero}
use Rattle.std.specs.Int.{bit_at}
use Rattle.sg_words.specs.Address.{byte_at}
use Rattle.sg_words.specs.Blocks.{IsOf}
use Rattle.sg_words.specs.declared.steps.BlockWord.{BlockWord}
use Rattle.sg_words.specs.declared.steps.BlockWord.TheVariants.{Free}
use Rattle.sg_desc.specs.declared.shapes.Shape.{Shape}
use Rattle.sg_words.specs.declared.layout.Layout.{Layout}
use Rattle.sg_words.specs.Sections.{IsLayout, nursery_base, old_base, words_end}
use Rattle.sg_space.specs.Space.{Contents, AreShapes, clear_space}
use Rattle.sg_space.specs.Standing.{block_in, used_in, marks_in, page_in, IsSoundBlock, IsSoundPage, IsSoundBy, IsSound}

module _ (layout : Layout) (shapes : List Shape) (is_layout : IsLayout layout) (are_shapes : AreShapes shapes) where
  clear_ordered : (f : ℕ) → f < 1 → (slice_index (clear_space layout shapes).next f ≤ slice_index (clear_space layout shapes).ends f) × (slice_index (clear_space layout shapes).ends f ≤ byte_at (old_base layout)) × (byte_at nursery_base ≤ slice_index (clear_space layout shapes).next f)
  clear_ordered zero below = (omega arith, omega arith, omega arith)
  clear_ordered (suc f) below = absurd (omega arith)

  clear_addresses : (f : ℕ) → f < 1 → (slice_index (clear_space layout shapes).next f % 8 ≡ 0) × (slice_index (clear_space layout shapes).ends f % 8 ≡ 0)
  clear_addresses zero below = (refl, omega arith)
  clear_addresses (suc f) below = absurd (omega arith)

  all_free : (c : ℕ) → c < layout.blocks → block_in (clear_space layout shapes) c ≡ Free
  all_free c l = get_or-replicate layout.blocks c Free Free l

  none_used : (c : ℕ) → c < layout.blocks → used_in (clear_space layout shapes) c ≡ 0
  none_used c l = get_or-replicate layout.blocks c 0 0 l

  none_marked : (c : ℕ) → c < layout.blocks → marks_in (clear_space layout shapes) c ≡ 0
  none_marked c l = get_or-replicate layout.blocks c 0 0 l

  no_slots : (c z : ℕ) → c < layout.blocks → IsOf (block_in (clear_space layout shapes) c) z → ⊥
  no_slots c z l h = subst (λ (state : BlockWord). IsOf state z) (all_free c l) h

  clear_block : (c : ℕ) → c < layout.blocks → IsSoundBlock (clear_space layout shapes) (λ x. None) c
  clear_block c l = record {
    settled = λ z e. let f = all_free c l in cc;
    sized = λ z h. absurd (no_slots c z l h);
    bare = λ e. (none_used c l, none_marked c l);
    filled = λ z i h. absurd (no_slots c z l h);
    marked = λ i b. let m = none_marked c l in let z = bit_at-zero i in absurd (let e = ap (λ (v : ℕ). bit_at v i) m in omega arith);
  }

  clear_page : (j : ℕ) → j < layout.pages → IsSoundPage (clear_space layout shapes) (λ x. None) j
  clear_page j l = record {
    named = λ q e. let z : page_in (clear_space layout shapes) j ≡ 0 = get_or-replicate layout.pages j 0 0 l in absurd (omega arith);
  }

  pub clear_is_sound : IsSoundBy (clear_space layout shapes) (λ x. None)
  clear_is_sound = record {
    words = length-replicate (words_end layout) 0;
    classes = are_shapes.classes;
    owned = λ x h e. absurd (none-some h e);
    whole = λ h x e. absurd (none-some h e);
    objects = λ h e. absurd (none-some h e);
    places = λ h e. absurd (none-some h e);
    blocks = clear_block;
    pages = clear_page;
    clear = λ x e above below garbage. get_or-replicate (words_end layout) x 0 0 (omega arith);
    fragments = refl;
    ordered = clear_ordered;
    apart = λ f j less below. absurd (omega arith);
    addresses = clear_addresses;
    free = λ f x below from to. refl;
  }

  pub fresh_is_sound : (s : Contents) → s ≡ clear_space layout shapes → IsSound s
  fresh_is_sound s is = subst IsSound (sym is) (λ x. None, clear_is_sound)
