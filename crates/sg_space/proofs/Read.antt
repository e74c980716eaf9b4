-- What is read of a standing object.
use Rattle.std.proofs.Common.{◌≡◌, ℕ, ◌+◌, ◌-◌, ◌/◌, ◌^◌, ◌<◌, ◌≤◌, ap, sym, ◌∙◌, arith}
use Rattle.std.proofs.lemmas.Option.{slice_get_within}
use Rattle.sg_words.specs.Address.{byte_at}
use Rattle.sg_words.specs.Tags.{plain_word}
use Rattle.sg_words.specs.Sections.{nursery_base, words_end}
use Rattle.sg_space.specs.declared.objects.Object.{Object}
use Rattle.sg_space.specs.Space.{Contents, IsContents}
use Rattle.sg_space.specs.Standing.{word, IsSound, IsFront, TellsAt}
use Rattle.sg_space.proofs.Slots.{place_inside}

pub record CanRead (s : Contents) (x : ℕ) : Type 0 where
  pub class : ℕ
  pub tag : word s x ≡ plain_word class
  pub few : class < 256
  pub above : nursery_base ≤ x
  pub below : x + 1 < words_end s.layout
  pub far : x < 2 ^ 37
  pub fields : word s (x + 1) + 2 < 2 ^ 32

pub can_read : (s : Contents) (x : ℕ) → IsSound s → IsContents s → IsFront s x → CanRead s x
can_read s x sound contents front =
    let e = front.begins sound.0 sound.1 in
    let o = sound.1.objects x e in
    let i = place_inside s x (sound.1.places x e) in
    let above = i.above in
    let within = i.within in
    let there = slice_get_within s.shapes o.class o.shape o.shape_is in
    let classes = sound.1.classes in
    let nursery = contents.layout.nursery_most in
    let blocks = contents.layout.blocks_most in
    let pages = contents.layout.pages in
    record {
      class = o.class;
      tag = o.tag;
      few = omega arith;
      above = above;
      below = omega arith;
      far = omega arith;
      fields = omega arith;
    }

pub reads_at : (s : Contents) (x : ℕ) (o : Object) → IsSound s → IsContents s → IsFront s x → o.at ≡ byte_at x → o.class ≡ word s x / 8 - 1 →
    o.fields ≡ word s (x + 1) → o.words ≡ o.fields + 2 → TellsAt s x o
reads_at s x o sound contents front at class fields words =
    let can = can_read s x sound contents front in
    let tag = can.tag in
    let same : o.class ≡ can.class = omega arith in
    record {
      begins = front.begins;
      told = record {
        at = at;
        class = tag ∙ ap plain_word (sym same);
        fields = fields;
        words = words ∙ ap (λ (n : ℕ). n + 2) fields;
      };
    }
