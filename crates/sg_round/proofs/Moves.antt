-- How a step of a worker keeps what is true of the round: where only the worker changes, where a slot ends, and where a claimed word
-- is written.
use Rattle.std.proofs.Common.{◌≡◌, ◌≢◌, ℕ, ◌+◌, ◌≤◌, ◌<◌, ◌⊎◌, false, List, [], ◌∷◌, ◌++◌, length, sym, refl, ap, ◌∙◌, subst, inl, inr, arith, le_refl}
use Rattle.std.proofs.lemmas.Bool.{cases_eq}
use Rattle.std.proofs.lemmas.List.{append-nil}
use Rattle.sg_words.specs.Address.{byte_at}
use Rattle.sg_words.specs.Lists.{In, has}
use Rattle.sg_words.specs.Objects.{sent}
use Rattle.sg_words.specs.Words.{put, Words}
use Rattle.sg_words.proofs.Puts.{put-at, put-other}
use Rattle.sg_words.proofs.Members.{has-cases, in-here, in-there}
use Rattle.sg_round.specs.Area.{IsYoung, HasCard, card_at}
use Rattle.sg_round.specs.Items.{slots_of}
use Rattle.sg_round.specs.Worker.{Mid, Over, Worker, idle}
use Rattle.sg_round.specs.Rules.{Nothing, Ends}
use Rattle.sg_round.specs.Round.{Start, IsRoundOpening, Owner, Claimed, Round, IsSettled, IsGoing}
use Rattle.sg_round.proofs.Relation.{InRound, IsStaying, in_hand, todo_of, InCell, AreClaims, IsMarking, AreCards, AreCells, AtMid}
use Rattle.sg_round.proofs.Relation.{IsFilling, Stands, Later, todo_with, IsSingle, Kept}
use Rattle.sg_round.proofs.Going.{clear-not-claimed, slot-unclaimed}
use Rattle.sg_round.proofs.Steps.{settle, written}
use Rattle.sg_round.proofs.Single.{ends-single}
use Rattle.sg_round.proofs.Frame.{list-later}

-- what is true before a step of worker k, which is a
pub record Before (t : Start) (others : ℕ → Type 0) (k : ℕ) (v : Words) (r : Round) (a : Worker) : Type 0 where
  pub opening : IsRoundOpening t
  pub going : IsGoing t.area t.words.word t.items t.zone v.word (todo_with others (InCell t r.source v.cell) (todo_of t r.source a)) r
  pub claims : AreClaims t.area t.team t.words.word t.words.block t.words.used v.block v.used r.owner r.m r.moves r.fails
  pub cards : AreCards t.area t.words.word t.words.card v.card r.source r.handled r.moves r.fails
  pub cells : AreCells t r v.cell
  pub stands : Stands t v r k a

-- it hasn't ended
abbrev pub IsAwake : Mid → Type 0
IsAwake Over = ⊥
IsAwake mid = Unit {0}

pub is-member : (team k : ℕ) (mid : Mid) (spare : ℕ → ℕ) → IsAwake mid → (k < team) ⊎ ((mid ≡ Over) × ((z : ℕ) → spare z ≡ 0)) → k < team
is-member team k mid spare w m = elim m [ inl l ↦ l | inr e ↦ absurd (subst IsAwake e.0 w) ]

-- another one's claim is no claim of this one's
pub other-claim : (o : Owner) (j k at at' z z' : ℕ) → j ≢ k → o ≡ Claimed j at z → o ≡ Claimed k at' z' → ⊥
other-claim o j k at at' z z' n e f = let q : Claimed j at z ≡ Claimed k at' z' = sym e ∙ f in n cc

pub size-claim : (o : Owner) (k at at' z z' : ℕ) → o ≡ Claimed k at z → o ≡ Claimed k at' z' → z ≡ z'
size-claim o k at at' z z' e f = let q : Claimed k at z ≡ Claimed k at' z' = sym e ∙ f in cc

pub claim-same : (k k' at at' z z' : ℕ) → Claimed k at z ≡ Claimed k' at' z' → z' ≡ z
claim-same k k' at at' z z' e = cc

pub claim-size : (k at at' z z' : ℕ) → Claimed k at z ≡ Claimed k at' z' → (at' ≡ at) × (z' ≡ z)
claim-size k at at' z z' e = (cc, cc)

pub same-later : {t : Start} {k : ℕ} {v : Words} {r : Round} → Later t k v r v r
same-later {t} {k} {v} {r} = record {
  blocks = λ b d. refl;
  bits = λ b i e. e;
  moves = λ x h. (h, refl);
  fails = λ x h. h;
  more = le_refl (length r.moves + length r.fails);
  whole = λ x h. h;
  slots = λ s h. h;
  sources = λ s h. refl;
  heads = λ x h. (refl, refl);
  owns = λ j at z y n e. (e, refl);
  claims = λ j at z y n e. e;
  cells = λ j i n l e. e;
}

pub nothing : (r : Round) → (r.handled ≡ r.handled) × (r.moves ≡ r.moves ++ []) × (r.fails ≡ r.fails ++ [])
nothing r = (refl, sym (append-nil r.moves), sym (append-nil r.fails))

module _ {t : Start} {others : ℕ → Type 0} {k : ℕ} {v : Words} {r : Round} where
  pub member : (a : Worker) → IsAwake a.mid → Before t others k v r a → k < t.team
  member a w n = is-member t.team k a.mid a.spare w n.stands.member

  -- what a worker that writes no copy has claimed is spare
  pub resting : (a : Worker) → Before t others k v r a → ((at z : ℕ) → IsFilling at z a.mid → ⊥) →
      (at z y : ℕ) → r.owner y ≡ Claimed k at z → (a.spare z ≡ at) × (at ≤ y) × (y < at + z) × (at ≢ 0)
  resting a n none at z y e = let c = n.stands.claims at z y e in elim c.0 [
    | inl q ↦ (q, c.1, c.2, c.3)
    | inr h ↦ absurd (none at z h)
  ]

  -- the same claims, in another state
  pub claims-as : (a : Worker) (mid : Mid) → Before t others k v r a → ((at z : ℕ) → IsFilling at z a.mid → IsFilling at z mid) →
      (at z y : ℕ) → r.owner y ≡ Claimed k at z → ((a.spare z ≡ at) ⊎ IsFilling at z mid) × (at ≤ y) × (y < at + z) × (at ≢ 0)
  claims-as a mid n f at z y e = let c = n.stands.claims at z y e in (elim c.0 [ inl q ↦ inl q | inr h ↦ inr (f at z h) ], c.1, c.2, c.3)

  -- nothing changes but the worker
  pub goes-on : (a b : Worker) → Before t others k v r a → todo_of t r.source b ≡ todo_of t r.source a → Stands t v r k b → Kept t others k v r a Nothing v b
  goes-on a b n e st = record {
    round = r;
    later = same-later;
    going = subst (λ (l : List ℕ). IsGoing t.area t.words.word t.items t.zone v.word (todo_with others (InCell t r.source v.cell) l) r) (sym e) n.going;
    claims = n.claims;
    cards = n.cards;
    cells = n.cells;
    stands = st;
    told = nothing r;
    single = λ q. subst (λ (l : List ℕ). IsSingle others (InCell t r.source v.cell) l r.handled) (sym e) q;
  }

  -- nor does it but for where it stands
  pub walks : (a : Worker) (mid : Mid) → Before t others k v r a → IsAwake a.mid → in_hand t r.source mid ≡ in_hand t r.source a.mid →
      ((at z : ℕ) → IsFilling at z a.mid → IsFilling at z mid) → AtMid t v r k a.spare a.list a.hand mid →
      Kept t others k v r a Nothing v (record a { mid = mid })
  walks a mid n w e f at = goes-on a (record a { mid = mid }) n (ap (λ (l : List ℕ). l ++ (a.hand ++ slots_of t.area t.words.word r.source a.list)) e) (record {
    member = inl (member a w n);
    spares = n.stands.spares;
    claims = claims-as a mid n f;
    classes = n.stands.classes;
    passed = n.stands.passed;
    known = n.stands.known;
    few = n.stands.few;
    at = at;
  })

  -- the card of a slot that has ended
  pub cards-ended : (a : Worker) (s : ℕ) → Before t others k v r a →
      ((x : ℕ) → HasCard t.area s → t.words.word (r.source s) ≡ byte_at x → IsYoung t.area x → has x r.moves ≡ false → ⊥) →
      AreCards t.area t.words.word t.words.card v.card r.source (s ∷ r.handled) r.moves r.fails
  cards-ended a s n none = record {
    marked = λ z x h card held young nm. elim (has-cases z s r.handled h) [
      | inl e ↦ absurd (none x (subst (HasCard t.area) e card) (ap (λ (y : ℕ). t.words.word (r.source y)) (sym e) ∙ held) young nm)
      | inr i ↦ n.cards.marked z x i card held young nm
    ];
    kept = n.cards.kept;
    changed = λ d. elim (n.cards.changed d) [
      | inl e ↦ inl e
      | inr m ↦ inr (m.0, more d m.1)
    ];
  }
    where
      more : (d : ℕ) → IsMarking t.area t.words.word r.source r.handled r.fails d → IsMarking t.area t.words.word r.source (s ∷ r.handled) r.fails d
      more d m = record { s = m.s; x = m.x; done = in-there m.s s r.handled m.done; has = m.has; is = m.is; held = m.held; young = m.young; stays = m.stays }

  pub cards-marked : (a : Worker) (s x : ℕ) → Before t others k v r a → HasCard t.area s →
      t.words.word (r.source s) ≡ byte_at x → IsYoung t.area x → IsStaying t.words.word r.fails x →
      AreCards t.area t.words.word t.words.card (put v.card (card_at t.area s) 1) r.source (s ∷ r.handled) r.moves r.fails
  cards-marked a s x n has held young stays = record {
    marked = λ z y h card e yo nm. elim (has-cases z s r.handled h) [
      | inl q ↦ set (card_at t.area z) (ap (card_at t.area) q)
      | inr i ↦ dirty (card_at t.area z) (n.cards.marked z y i card e yo nm)
    ];
    kept = λ d some. dirty d (n.cards.kept d some);
    changed = λ d. elim (cases_eq d (card_at t.area s)) [
      | inl e ↦ inr (
        put-at v.card (card_at t.area s) 1 d e,
        record { s = s; x = x; done = in-here s s r.handled refl; has = has; is = e; held = held; young = young; stays = stays },
      )
      | inr o ↦ elim (n.cards.changed d) [
        | inl e ↦ inl (put-other v.card (card_at t.area s) 1 d o ∙ e)
        | inr m ↦ (let q = m.1 in inr (
          put-other v.card (card_at t.area s) 1 d o ∙ m.0,
          record { s = q.s; x = q.x; done = in-there q.s s r.handled q.done; has = q.has; is = q.is; held = q.held; young = q.young; stays = q.stays },
        ))
      ]
    ];
  }
    where
      set : (d : ℕ) → d ≡ card_at t.area s → put v.card (card_at t.area s) 1 d ≢ 0
      set d e z = let q = put-at v.card (card_at t.area s) 1 d e in absurd (omega arith)

      dirty : (d : ℕ) → v.card d ≢ 0 → put v.card (card_at t.area s) 1 d ≢ 0
      dirty d n = elim (cases_eq d (card_at t.area s)) [
        | inl e ↦ set d e
        | inr o ↦ (λ z. n (sym (put-other v.card (card_at t.area s) 1 d o) ∙ z))
      ]

  -- the slot s is handled, and the worker is between two slots
  pub handles : (a b : Worker) (s : ℕ) (word' card' : ℕ → ℕ) → Before t others k v r a → IsAwake a.mid → InRound t r s →
      todo_of t r.source a ≡ s ∷ todo_of t r.source (idle b) →
      word' s ≡ sent r.m (t.words.word (r.source s)) → ((y : ℕ) → y ≢ s → word' y ≡ v.word y) →
      ((x : ℕ) → t.words.word (r.source s) ≡ byte_at x → IsYoung t.area x → IsSettled t.words.word r.moves r.fails x) →
      AreCards t.area t.words.word t.words.card card' r.source (s ∷ r.handled) r.moves r.fails → Stands t v r k (idle b) →
      Kept t others k v r a (Ends s) (record v { word = word'; card = card' }) (idle b)
  handles a b s word' card' n w mine list here there st cards stands =
      let later : Later t k v r (record v { word = word'; card = card' }) (record r { handled = s ∷ r.handled }) = record {
        blocks = λ b d. refl;
        bits = λ b i e. e;
        moves = λ x h. (h, refl);
        fails = λ x h. h;
        more = le_refl (length r.moves + length r.fails);
        whole = λ x h. h;
        slots = λ s h. h;
        sources = λ s h. refl;
        heads = λ x h. (refl, refl);
        owns = λ j at z y d e. (
          e,
          there y (λ q. clear-not-claimed (r.owner s) j at z (slot-unclaimed n.opening.opening n.going s mine)
              (ap r.owner (sym q) ∙ e)),
        );
        claims = λ j at z y d e. e;
        cells = λ j i d l e. e;
      } in
      record {
        round = record r { handled = s ∷ r.handled };
        later = later;
        going = settle n.opening.opening n.going s word' mine back fwd here there st;
        claims = n.claims;
        cards = cards;
        cells = record { filled = n.cells.filled; beyond = n.cells.beyond };
        stands = record {
          member = stands.member;
          spares = stands.spares;
          claims = stands.claims;
          classes = stands.classes;
          passed = stands.passed;
          known = list-later later b.list stands.known;
          few = stands.few;
          at = tt;
        };
        told = (refl, (nothing r).1, (nothing r).2);
        single = λ q. ends-single s (todo_of t r.source (idle b)) r.handled
            (subst (λ (l : List ℕ). IsSingle others (InCell t r.source v.cell) l r.handled) list q);
      }
    where
      back : (z : ℕ) → todo_with others (InCell t r.source v.cell) (todo_of t r.source (idle b)) z →
          todo_with others (InCell t r.source v.cell) (todo_of t r.source a) z
      back z h = elim h [
        | inl o ↦ inl o
        | inr h ↦ elim h [
          | inl i ↦ inr (inl (subst (λ (l : List ℕ). In z l) (sym list) (in-there z s (todo_of t r.source (idle b)) i)))
          | inr c ↦ inr (inr c)
        ]
      ]

      fwd : (z : ℕ) → todo_with others (InCell t r.source v.cell) (todo_of t r.source a) z →
          (z ≡ s) ⊎ todo_with others (InCell t r.source v.cell) (todo_of t r.source (idle b)) z
      fwd z h = elim h [
        | inl o ↦ inr (inl o)
        | inr h ↦ elim h [
          | inl i ↦ elim (has-cases z s (todo_of t r.source (idle b)) (subst (λ (l : List ℕ). In z l) list i)) [
            | inl e ↦ inl e
            | inr i ↦ inr (inr (inl i))
          ]
          | inr c ↦ inr (inr (inr c))
        ]
      ]

  -- worker k writes a word that it has claimed
  pub writing : (a : Worker) (mid : Mid) (at z y u : ℕ) → Before t others k v r a → IsAwake a.mid → in_hand t r.source mid ≡ in_hand t r.source a.mid →
      r.owner y ≡ Claimed k at z →
      ((at z : ℕ) → IsFilling at z a.mid → IsFilling at z mid) → AtMid t (record v { word = put v.word y u }) r k a.spare a.list a.hand mid →
      Kept t others k v r a Nothing (record v { word = put v.word y u }) (record a { mid = mid })
  writing a mid at z y u n w hand mine f mid-at =
      let b : Worker = record a { mid = mid } in
      let e : todo_of t r.source b ≡ todo_of t r.source a = ap (λ (l : List ℕ). l ++ (a.hand ++ slots_of t.area t.words.word r.source a.list)) hand in
      record {
        round = r;
        later = record {
          blocks = λ b d. refl;
          bits = λ b i e. e;
          moves = λ x h. (h, refl);
          fails = λ x h. h;
          more = le_refl (length r.moves + length r.fails);
          whole = λ x h. h;
          slots = λ s h. h;
          sources = λ s h. refl;
          heads = λ x h. (refl, refl);
          owns = λ j at' z' y' d e. (e, put-other v.word y u y' (λ q. other-claim (r.owner y') j k at' at z' z d e (ap r.owner q ∙ mine)));
          claims = λ j at z y d e. e;
          cells = λ j i d l e. e;
        };
        going = subst (λ (l : List ℕ). IsGoing t.area t.words.word t.items t.zone (put v.word y u) (todo_with others (InCell t r.source v.cell) l) r) (sym e)
            (written n.opening.opening n.going k at z y (put v.word y u) mine (λ x d. put-other v.word y u x d));
        claims = n.claims;
        cards = n.cards;
        cells = n.cells;
        stands = record {
          member = inl (member a w n);
          spares = n.stands.spares;
          claims = claims-as a mid n f;
          classes = n.stands.classes;
          passed = n.stands.passed;
          known = n.stands.known;
          few = n.stands.few;
          at = mid-at;
        };
        told = nothing r;
        single = λ q. subst (λ (l : List ℕ). IsSingle others (InCell t r.source v.cell) l r.handled) (sym e) q;
      }
