use Rattle.std.proofs.Common.{false, true, ◌≡◌, ◌⊎◌, inl, inr, sym, ◌∙◌, subst}
use Rattle.sg_graph.specs.Laws.{LacksWords, LacksSlots}
use Rattle.sg_space.specs.Standing.{block_in, used_in}
use Rattle.sg_world.proofs.stop.is_wanted.Goals as goal

pub returns : goal.returns
returns c p g b holds =
    let told = c.in_ok-lacks.ensures.told p g b holds in
    let needs = c.as_slice.ensures.value in
    let sizes = c.as_slice-2.ensures.value in
    let there : (LacksWords b.fragments b.limit b.next c.as_slice.result.now
    ⊎ LacksSlots p.config.blocks (block_in c.args.space.now) (used_in c.args.space.now) c.as_slice-2.result.now)
    ≡ (LacksWords b.fragments b.limit b.next c.args.wants.now.needs.items
    ⊎ LacksSlots p.config.blocks (block_in c.args.space.now) (used_in c.args.space.now) c.args.wants.now.sizes.items) =
    λ i. LacksWords b.fragments b.limit b.next (needs i) ⊎ LacksSlots p.config.blocks (block_in c.args.space.now) (used_in c.args.space.now) (sizes i) in (
      λ e. inr (subst (λ (A : Type 0). A) there (told.0 e)),
      λ w. elim w [
        | inl given ↦ absurd (let q : false ≡ true = sym c.if-given.false ∙ given in cc q)
        | inr l ↦ told.1 (subst (λ (A : Type 0). A) (sym there) l)
      ],
    )
