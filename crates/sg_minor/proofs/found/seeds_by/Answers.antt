use Rattle.std.proofs.Common.{refl, sym, ap}
use Rattle.std.proofs.lemmas.Result.{IfOk-weaker}
use Rattle.sg_cards.specs.Numbering.{numbers_end}
use Rattle.sg_space.specs.Space.{Contents, IsContents}
use Rattle.sg_minor.specs.Laws.{HeapLaw, IsSoundHeap}
use Rattle.sg_minor.specs.Parts.{HoldsSome}
use Rattle.sg_minor.proofs.found.seeds_by.Goals as goal

by_heap : (s : Contents) → HeapLaw → HoldsSome s → IsContents s → IsSoundHeap s
by_heap s law some contents = law.sound some.0 s some.1 some.2 some.3 contents

pub seeds-requires : goal.seeds-requires
seeds-requires g c =
    let s = c.args.space.now in
    let heap = by_heap s c.heap_law.ensures c.requires.some c.layout-layout.ensures.contents in (
      s,
      record {
        words = record {
          layout_is = sym c.layout-layout.ensures.layout;
          shapes_are = sym c.shapes.ensures;
          contents = c.layout-layout.ensures.contents;
          count_is = ap numbers_end (sym c.layout-layout.ensures.layout);
          words = λ i l. refl;
        };
        sound = (heap.owner, heap.sound);
      },
      heap.carded,
    )

pub returns : goal.returns
returns g c =
    let s = c.args.space.now in
    let heap = by_heap s c.heap_law.ensures c.requires.some c.layout-layout.ensures.contents in
    IfOk-weaker c.seeds.result _ _ (λ found is owner sound. is s owner (record {
      words = record {
        layout_is = sym c.layout-layout.ensures.layout;
        shapes_are = sym c.shapes.ensures;
        contents = c.layout-layout.ensures.contents;
        count_is = ap numbers_end (sym c.layout-layout.ensures.layout);
        words = λ i l. refl;
      };
      sound = (heap.owner, heap.sound);
    }) heap.carded sound) c.seeds.ensures.exact
