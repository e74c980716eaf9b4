-- What steps of a walk do to the frames.
use Rattle.std.proofs.Common.{◌≡◌, ◌≢◌, ℕ, zero, suc, ◌+◌, ◌-◌, ◌*◌, ◌≤◌, ◌<◌, Option, None, MatchOption, Some, inl, inr, List, [], ◌∷◌, ◌++◌, drop, take, map, length, get_or, slice_get, slice_set, Result, Ok, if◌then◌else◌, sym, refl, ap, ◌∙◌, subst, arith}
use Rattle.std.proofs.lemmas.List.{append_assoc, append-nil}
use Rattle.std.proofs.lemmas.Option.{none-some, same_Some}
use Rattle.std.proofs.lemmas.List.Folds.{flat_map-map}
use Rattle.std.specs.List.{AllByRecursion}
use Rattle.std.specs.Result.{is_ok}
use Rattle.sg_program.specs.declared.program.Statement.{Statement}
use Rattle.sg_program.specs.declared.program.Item.{Item, out-Item, map-Item, fold_out-Item}
use Rattle.sg_program.specs.declared.program.Item.TheOpen.{One, Repeat}
use Rattle.sg_program.specs.Scripts.{repeated, statements_of, item_out, written_out}
use Rattle.sg_program.specs.Invariants.{most_of, depth_step, item_depth}
use Rattle.sg_script.specs.declared.cursor.Frame.{Frame}
use Rattle.sg_script.specs.Left.{frame_left, left, FitsAtDepth, AreNested, IsAt, Stands, cost_step, item_cost, items_cost, frame_cost, cost}

-- what an item does
out_one : (item : Item) (s : Statement) → out-Item item ≡ One s → item_out item ≡ s ∷ []
out_one item s e = fold_out-Item (List Statement) statements_of item ∙ ap (λ x. statements_of (map-Item Item (List Statement) item_out x)) e

out_repeat : (item : Item) (times : ℕ) (body : List Item) → out-Item item ≡ Repeat times body → item_out item ≡ repeated times (written_out body)
out_repeat item times body e =
    fold_out-Item (List Statement) statements_of item ∙ ap (λ x. statements_of (map-Item Item (List Statement) item_out x)) e ∙ ap (repeated times) (flat_map-map (λ ys. ys) item_out body)

-- the frame behind its next item
abbrev pub passed : Frame → Frame
passed f = record f { at = f.at + 1 }

-- one more frame
pub left_push : (fs : List Frame) (f : Frame) → left (fs ++ f ∷ []) ≡ (frame_left f ++ left fs)
left_push [] f = sym (append-nil (frame_left f))
left_push (x ∷ fs) f = ap (λ (z : List Statement). z ++ frame_left x) (left_push fs f) ∙ append_assoc (frame_left f) (left fs) (frame_left x)

pub cost_push : (fs : List Frame) (f : Frame) → cost (fs ++ f ∷ []) ≡ cost fs + frame_cost f
cost_push [] f = refl
cost_push (x ∷ fs) f = let e = cost_push fs f in omega arith

pub nested_push : (d : ℕ) (fs : List Frame) (f : Frame) → AreNested d fs → FitsAtDepth (d + length fs) f.body.now → AreNested d (fs ++ f ∷ [])
nested_push d [] f n h = (subst (λ z. FitsAtDepth z f.body.now) (let e : d + 0 ≡ d = omega arith in e) h, tt)
nested_push d (x ∷ fs) f n h = (n.0, nested_push (suc d) fs f n.1 (subst (λ z. FitsAtDepth z f.body.now) (let e : d + suc (length fs) ≡ suc d + length fs = omega arith in e) h))

pub nested_pop : (d : ℕ) (fs : List Frame) (f : Frame) → AreNested d (fs ++ f ∷ []) → AreNested d fs × FitsAtDepth (d + length fs) f.body.now
nested_pop d [] f n = (tt, subst (λ z. FitsAtDepth z f.body.now) (let e : d ≡ d + 0 = omega arith in e) n.0)
nested_pop d (x ∷ fs) f n =
    let r = nested_pop (suc d) fs f n.1 in
    ((n.0, r.0), subst (λ z. FitsAtDepth z f.body.now) (let e : suc d + length fs ≡ d + suc (length fs) = omega arith in e) r.1)

-- what a push that succeeds leaves
pub ok_then : {A B E : Type 0} (r : Result A E) (a : A) (x y : B) → r ≡ Ok a → (if is_ok r then x else y) ≡ x
ok_then r a x y e = ap (λ z. if is_ok z then x else y) e

-- the items from the next one on
module _ {A : Type 0} where
  pub drop_next : (xs : List A) (n : ℕ) (x : A) → slice_get xs n ≡ Some x → drop n xs ≡ x ∷ drop (n + 1) xs
  drop_next [] n x e = absurd (none-some x e)
  drop_next (y ∷ xs) zero x e = ap (λ z. z ∷ xs) (same_Some y x e)
  drop_next (y ∷ xs) (suc n) x e = drop_next xs n x e ∙ ap (λ (k : ℕ). x ∷ drop k (y ∷ xs)) (let e : suc (n + 1) ≡ suc n + 1 = omega arith in e)

  pub at_there : (xs : List A) (n : ℕ) (d x : A) → n < length xs → x ≡ get_or xs n d → slice_get xs n ≡ Some x
  at_there [] n d x l e = absurd (omega arith)
  at_there (y ∷ xs) zero d x l e = ap Some (sym e)
  at_there (y ∷ xs) (suc n) d x l e = at_there xs n d x (omega arith) e

  pub drop_end : (xs : List A) (n : ℕ) → length xs ≤ n → drop n xs ≡ []
  drop_end [] zero l = refl
  drop_end [] (suc n) l = refl
  drop_end (y ∷ xs) zero l = absurd (omega arith)
  drop_end (y ∷ xs) (suc n) l = drop_end xs n (omega arith)

  pub all_at : (P : A → Type 0) (xs : List A) (n : ℕ) (x : A) → slice_get xs n ≡ Some x → AllByRecursion P xs → P x
  all_at P [] n x e h = absurd (none-some x e)
  all_at P (y ∷ xs) zero x e h = subst P (same_Some y x e) h.0
  all_at P (y ∷ xs) (suc n) x e h = all_at P xs n x e h.1

  pub again : (t : ℕ) (xs : List A) → 0 < t → repeated t xs ≡ (xs ++ repeated (t - 1) xs)
  again zero xs l = absurd (omega arith)
  again (suc n) xs l = ap (λ (k : ℕ). xs ++ repeated k xs) (let e : n ≡ suc n - 1 = omega arith in e)

times_more : (t n : ℕ) → 0 < t → n + (t - 1) * n ≡ t * n
times_more zero n l = absurd (omega arith)
times_more (suc t) n l = ap (λ (k : ℕ). n + k * n) (let e : suc t - 1 ≡ t = omega arith in e) ∙ (let e : n + t * n ≡ suc t * n = omega arith in e)

-- a body that begins
module _ (fs new : List Frame) (f : Frame) (body : List Item) (t : ℕ) (some : 0 < t) (is : new ≡ fs ++ f ∷ []) (body_is : f.body.now ≡ body) (at_is : f.at ≡ 0) (times_is : f.times ≡ t - 1) where
  pub enter_left : left new ≡ (repeated t (written_out body) ++ left fs)
  enter_left =
      ap left is ∙ left_push fs f
      ∙ ap (λ (z : List Item). (written_out (drop f.at z) ++ repeated f.times (written_out z)) ++ left fs) body_is
      ∙ ap (λ (k : ℕ). (written_out (drop k body) ++ repeated f.times (written_out body)) ++ left fs) at_is
      ∙ ap (λ (k : ℕ). (written_out body ++ repeated k (written_out body)) ++ left fs) times_is
      ∙ ap (λ (z : List Statement). z ++ left fs) (sym (again t (written_out body) some))

  pub enter_nested : AreNested 0 fs → FitsAtDepth (length fs) body → AreNested 0 new
  enter_nested n h = subst (AreNested 0) (sym is) (nested_push 0 fs f n (subst (FitsAtDepth (0 + length fs)) (sym body_is) (subst (λ z. FitsAtDepth z body) (let e : length fs ≡ 0 + length fs = omega arith in e) h)))

  pub enter_cost : cost new ≡ cost fs + t * (1 + items_cost body)
  enter_cost =
      ap cost is ∙ cost_push fs f
      ∙ ap (λ (z : List Item). cost fs + (1 + items_cost (drop f.at z) + f.times * (1 + items_cost z))) body_is
      ∙ ap (λ (k : ℕ). cost fs + (1 + items_cost (drop k body) + f.times * (1 + items_cost body))) at_is
      ∙ ap (λ (k : ℕ). cost fs + (1 + items_cost body + k * (1 + items_cost body))) times_is
      ∙ ap (λ (k : ℕ). cost fs + k) (times_more t (1 + items_cost body) some)

-- a body that is not done again
module _ (fs new : List Frame) (body : List Item) (t : ℕ) (none : t ≤ 0) (is : new ≡ fs) where
  over : t ≡ 0
  over = omega arith

  pub over_left : left new ≡ (repeated t (written_out body) ++ left fs)
  over_left = ap left is ∙ ap (λ (k : ℕ). repeated k (written_out body) ++ left fs) (sym over)

  pub over_cost : cost new ≡ cost fs + t * (1 + items_cost body)
  over_cost = ap cost is ∙ (let e : cost fs ≡ cost fs + 0 * (1 + items_cost body) = omega arith in e) ∙ ap (λ (k : ℕ). cost fs + k * (1 + items_cost body)) (sym over)

-- an item's cost and depth
cost_one : (item : Item) (s : Statement) → out-Item item ≡ One s → item_cost item ≡ 1
cost_one item s e = fold_out-Item ℕ cost_step item ∙ ap (λ x. cost_step (map-Item Item ℕ item_cost x)) e

cost_repeat : (item : Item) (t : ℕ) (body : List Item) → out-Item item ≡ Repeat t body → item_cost item ≡ 1 + t * (1 + items_cost body)
cost_repeat item t body e = fold_out-Item ℕ cost_step item ∙ ap (λ x. cost_step (map-Item Item ℕ item_cost x)) e

depth_repeat : (item : Item) (t : ℕ) (body : List Item) → out-Item item ≡ Repeat t body → item_depth item ≡ suc (most_of (map item_depth body))
depth_repeat item t body e = fold_out-Item ℕ depth_step item ∙ ap (λ x. depth_step (map-Item Item ℕ item_depth x)) e

shallow : (body : List Item) (d : ℕ) → suc (most_of (map item_depth body)) + d ≤ 4 → AllByRecursion (λ item. item_depth item + suc d ≤ 4) body
shallow [] d l = tt
shallow (x ∷ body) d l = (omega arith, shallow body d (omega arith))

-- the innermost frame, at an item
module _ (frames fs : List Frame) (f : Frame) (is : frames ≡ fs ++ f ∷ []) where
  pub outer_nested : AreNested 0 frames → AreNested 0 fs
  outer_nested n = (nested_pop 0 fs f (subst (AreNested 0) is n)).0

  pub body_fits : AreNested 0 frames → FitsAtDepth (length fs) f.body.now
  body_fits n = subst (λ z. FitsAtDepth z f.body.now) (let e : 0 + length fs ≡ length fs = omega arith in e) (nested_pop 0 fs f (subst (AreNested 0) is n)).1

  pub pass_nested : (new : List Frame) → new ≡ fs ++ passed f ∷ [] → AreNested 0 frames → AreNested 0 new
  pass_nested new e n = let q = nested_pop 0 fs f (subst (AreNested 0) is n) in subst (AreNested 0) (sym e) (nested_push 0 fs (passed f) q.0 q.1)

  left_is : left frames ≡ (frame_left f ++ left fs)
  left_is = ap left is ∙ left_push fs f

  cost_is : cost frames ≡ cost fs + frame_cost f
  cost_is = ap cost is ∙ cost_push fs f

  -- the body has ended, and begins again
  module _ (new : List Frame) (ended : length f.body.now ≤ f.at) where
    pub again_left : left new ≡ (repeated f.times (written_out f.body.now) ++ left fs) → left new ≡ left frames
    again_left e = e ∙ sym (left_is ∙ ap (λ (z : List Item). (written_out z ++ repeated f.times (written_out f.body.now)) ++ left fs) (drop_end f.body.now f.at ended))

    pub again_cost : cost new ≡ cost fs + f.times * (1 + items_cost f.body.now) → cost new + 1 ≤ cost frames
    again_cost e =
        let none : items_cost (drop f.at f.body.now) ≡ 0 = ap items_cost (drop_end f.body.now f.at ended) in
        let all = cost_is in
        omega arith

  module _ (item : Item) (here : slice_get f.body.now f.at ≡ Some item) where
    next_is : drop f.at f.body.now ≡ item ∷ drop (f.at + 1) f.body.now
    next_is = drop_next f.body.now f.at item here

    -- goes past the item
    module _ (new : List Frame) (new_is : new ≡ fs ++ passed f ∷ []) where
      pass_left : left frames ≡ (item_out item ++ left new)
      pass_left =
          left_is
          ∙ ap (λ (z : List Item). (written_out z ++ repeated f.times (written_out f.body.now)) ++ left fs) next_is
          ∙ ap (λ (z : List Statement). z ++ left fs) (append_assoc (item_out item) (written_out (drop (f.at + 1) f.body.now)) (repeated f.times (written_out f.body.now)))
          ∙ append_assoc (item_out item) (frame_left (passed f)) (left fs)
          ∙ ap (λ (z : List Statement). item_out item ++ z) (sym (ap left new_is ∙ left_push fs (passed f)))

      pass_cost : cost frames ≡ item_cost item + cost new
      pass_cost =
          let next : items_cost (drop f.at f.body.now) ≡ item_cost item + items_cost (drop (f.at + 1) f.body.now) = ap items_cost next_is in
          let before = cost_is in
          let after : cost new ≡ cost fs + frame_cost (passed f) = ap cost new_is ∙ cost_push fs (passed f) in
          omega arith

      pub length_same : length new ≡ length fs + 1
      length_same = ap length new_is ∙ length_more fs
        where
          length_more : (gs : List Frame) → length (gs ++ passed f ∷ []) ≡ length gs + 1
          length_more [] = refl
          length_more (g ∷ gs) = let e = length_more gs in omega arith

      -- a repeat is entered
      module _ (t : ℕ) (body : List Item) (out : out-Item item ≡ Repeat t body) (end : List Frame) where
        pub repeat_fits : AreNested 0 frames → FitsAtDepth (length new) body
        repeat_fits n =
            let fits = body_fits n in
            let l : length new ≡ suc (length fs) = (let e = length_same in omega arith) in
            let depth = depth_repeat item t body out in
            let most : item_depth item + length fs ≤ 4 = all_at (λ x. item_depth x + length fs ≤ 4) f.body.now f.at item here fits.1 in
            let all = shallow body (length fs) (omega arith) in
            subst (λ z. FitsAtDepth z body) (sym l) ((omega arith), all)

        pub repeat_left : left end ≡ (repeated t (written_out body) ++ left new) → left end ≡ left frames
        repeat_left e = e ∙ ap (λ (z : List Statement). z ++ left new) (sym (out_repeat item t body out)) ∙ sym pass_left

        pub repeat_cost : cost end ≡ cost new + t * (1 + items_cost body) → cost end + 1 ≤ cost frames
        repeat_cost e =
            let price = cost_repeat item t body out in
            let before = pass_cost in
            omega arith

      -- the statement is done
      pub one_left : (s : Statement) → out-Item item ≡ One s → left frames ≡ s ∷ left new
      one_left s out = pass_left ∙ ap (λ (z : List Statement). z ++ left new) (out_one item s out)

      pub one_rest : (s : Statement) → out-Item item ≡ One s → (first : Statement) (rest : List Statement) → left frames ≡ first ∷ rest → left new ≡ rest
      one_rest s out first rest e = ap (λ (z : List Statement). drop 1 z) (sym (one_left s out) ∙ e)

-- the last frame is one
module _ (fs gs : List Frame) (f g : Frame) (same : (fs ++ f ∷ []) ≡ (gs ++ g ∷ [])) where
  pub same_last : f ≡ g
  same_last = last_of fs gs same
    where
      last_of : (xs ys : List Frame) → (xs ++ f ∷ []) ≡ (ys ++ g ∷ []) → f ≡ g
      last_of [] [] e = cc
      last_of [] (y ∷ []) e = cc
      last_of [] (y ∷ z ∷ ys) e = cc
      last_of (x ∷ []) [] e = cc
      last_of (x ∷ z ∷ xs) [] e = cc
      last_of (x ∷ xs) (y ∷ ys) e = last_of xs ys (ap (drop 1) e)

-- the last frame, found by its number
pub last_split : (frames : List Frame) (n : ℕ) (f : Frame) → length frames ≡ n + 1 → f ≡ get_or frames n f → frames ≡ take n frames ++ f ∷ []
last_split [] n f l e = absurd (omega arith)
last_split (x ∷ []) zero f l e = ap (λ (z : Frame). z ∷ []) (sym e)
last_split (x ∷ y ∷ xs) zero f l e = absurd (omega arith)
last_split (x ∷ xs) (suc n) f l e = ap (λ (z : List Frame). x ∷ z) (last_split xs n f (omega arith) e)

pub last_set : (frames : List Frame) (n : ℕ) (f : Frame) → length frames ≡ n + 1 → slice_set frames n f ≡ take n frames ++ f ∷ []
last_set [] n f l = absurd (omega arith)
last_set (x ∷ []) zero f l = refl
last_set (x ∷ y ∷ xs) zero f l = absurd (omega arith)
last_set (x ∷ xs) (suc n) f l = ap (λ (z : List Frame). x ∷ z) (last_set xs n f (omega arith))

pub outer_same : (frames : List Frame) (n : ℕ) (f : Frame) → take n (slice_set frames n f) ≡ take n frames
outer_same [] zero f = refl
outer_same [] (suc n) f = refl
outer_same (x ∷ xs) zero f = refl
outer_same (x ∷ xs) (suc n) f = ap (λ (z : List Frame). x ∷ z) (outer_same xs n f)

pub one_last : (frames : List Frame) (n : ℕ) → frames ≢ [] → n ≡ length frames → length frames ≡ (n - 1) + 1
one_last [] n some e = absurd (some refl)
one_last (x ∷ xs) n some e = omega arith

-- at a statement something is left
pub at_left : (frames : List Frame) (s : Statement) → IsAt frames s → (rest : List Statement) × (left frames ≡ s ∷ rest)
at_left frames s h =
    let more = h.0 ++ passed h.1 ∷ [] in
    (left more, one_left frames h.0 h.1 h.3 h.2 h.4 more refl s h.5)

-- behind the statement is the rest
pub pass_rest : (frames fs new : List Frame) (f : Frame) → frames ≡ fs ++ f ∷ [] → new ≡ fs ++ passed f ∷ [] → frames ≢ [] → Stands frames → (first : Statement) (rest : List Statement) → left frames ≡ first ∷ rest → left new ≡ rest
pass_rest frames fs new f is new_is some (inl none) first rest e = absurd (some none)
pass_rest frames fs new f is new_is some (inr h) first rest e =
    let item = h.1.2 in
    let same : h.1.1 ≡ f = same_last h.1.0 fs h.1.1 f (sym h.1.3 ∙ is) in
    one_rest frames fs f is item (subst (λ (g : Frame). slice_get g.body.now g.at ≡ Some item) same h.1.4) new new_is h.0 h.1.5 first rest e

-- the last frame is at a statement
last_is : (fs : List Frame) (f d : Frame) → get_or (fs ++ f ∷ []) (length (fs ++ f ∷ []) - 1) d ≡ f
last_is [] f d = refl
last_is (x ∷ fs) f d =
    ap (λ (k : ℕ). get_or (x ∷ fs ++ f ∷ []) k d) (let e = length_one fs in let l : suc (length (fs ++ f ∷ [])) - 1 ≡ suc (length (fs ++ f ∷ []) - 1) = omega arith in l) ∙ last_is fs f d
  where
    length_one : (gs : List Frame) → length (gs ++ f ∷ []) ≡ length gs + 1
    length_one [] = refl
    length_one (g ∷ gs) = let e = length_one gs in omega arith

item_is : (xs : List Item) (n : ℕ) (x d : Item) → slice_get xs n ≡ Some x → get_or xs n d ≡ x
item_is [] n x d e = absurd (none-some x e)
item_is (y ∷ xs) zero x d e = same_Some y x e
item_is (y ∷ xs) (suc n) x d e = item_is xs n x d e

pub last_item : (frames : List Frame) (f : Frame) (item : Item) → Stands frames → 0 < length frames → f ≡ get_or frames (length frames - 1) f → item ≡ get_or f.body.now f.at item → (s : Statement) × (out-Item item ≡ One s) × IsAt frames s
last_item frames f item (inl none) some is here = absurd (let e = ap length none in omega arith)
last_item frames f item (inr h) some is here =
    let same : f ≡ h.1.1 = is ∙ ap (λ (z : List Frame). get_or z (length z - 1) f) h.1.3 ∙ last_is h.1.0 h.1.1 f in
    let there : item ≡ h.1.2 = here ∙ ap (λ (g : Frame). get_or g.body.now g.at item) same ∙ item_is h.1.1.body.now h.1.1.at h.1.2 item h.1.4 in
    (h.0, ap out-Item there ∙ h.1.5, h.1)

pub at_one : (frames : List Frame) (item : Item) (s first : Statement) → out-Item item ≡ One first → IsAt frames first → out-Item item ≡ One s → IsAt frames s
at_one frames item s first e h out = subst (IsAt frames) (let same : One first ≡ One s = sym e ∙ out in let z : first ≡ s = cc in z) h

pub no_repeat : (item : Item) (s : Statement) (t : ℕ) (body : List Item) → out-Item item ≡ One s → out-Item item ≡ Repeat t body → ⊥
no_repeat item s t body one out = let e : One s ≡ Repeat t body = sym one ∙ out in cc

-- what a look at the frames tells
pub seen : (frames slice : List Frame) (now : List Statement) (found : Option Statement) → slice ≡ frames → left frames ≡ now → MatchOption found (slice ≡ []) (IsAt slice) →
    MatchOption found (now ≡ []) (λ s. (rest : List Statement) × (now ≡ s ∷ rest))
seen frames slice now None same is h = sym is ∙ ap left (sym same ∙ h)
seen frames slice now (Some s) same is h = let q = at_left slice s h in (q.0, sym is ∙ ap left (sym same) ∙ q.1)
