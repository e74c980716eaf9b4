-- A stop that copies in order has one report, and leads to one graph and one book.
use Rattle.std.proofs.Common.{◌≡◌, ℕ, Option, Some, None, List, inl, inr, sym, refl, ap, ◌∙◌, subst}
use Rattle.sg_program.specs.declared.program.Program.{Program}
use Rattle.sg_graph.specs.declared.reports.EpochReport.{EpochReport}
use Rattle.sg_graph.specs.declared.reports.MinorReport.{MinorReport}
use Rattle.sg_graph.specs.declared.reports.MajorReport.{MajorReport}
use Rattle.sg_graph.specs.declared.reports.StopReport.{StopReport}
use Rattle.sg_graph.specs.Graph.{Graph}
use Rattle.sg_graph.specs.Book.{Book, IsWordOf, IsApart, IsSoundBook, swept_out}
use Rattle.sg_graph.specs.Pause.{ambiguous_words}
use Rattle.sg_graph.specs.Copies.{CopiesInOrder}
use Rattle.sg_graph.specs.Stop.{Asked, placing_behind, MakesMinor, MakesMajor, MakesRoom, Serves, requests_in}
use Rattle.sg_graph.specs.Follows.{IsStopInOrder}
use Rattle.sg_replay.proofs.Pausing as pausing
use Rattle.sg_replay.proofs.Majoring as majoring
use Rattle.sg_replay.proofs.Serving.{one_serving}

-- the sweep of what is owed moves no object
word_before : (g : Graph) (b : Book) (n x : ℕ) → IsWordOf g (swept_out b) n x → IsWordOf g b n x
word_before g b n x word = record { some = word.some; stands = word.stands; above = word.above; below = word.below }

apart_still : (p : Program) (g : Graph) (b : Book) → IsApart p g b → IsApart p g (swept_out b)
apart_still p g b apart = record {
  apart = λ m n x k l. apart.apart m n x (word_before g b m x k) (word_before g b n x l);
  inside = λ n x word young. apart.inside n x (word_before g b n x word) young;
}

module _ (p : Program) (g : Graph) (b : Book) (words : List ℕ) (requests : List Asked) where
  -- two stops make the same minor pause, or none
  one_minor : IsApart p g b → (m n : Option MinorReport) (h i : Graph) (c d : Book) → MakesMinor p g b words requests m h c →
      MakesMinor p g b words requests n i d → ((minor : MinorReport) → m ≡ Some minor → CopiesInOrder p g b words c) →
      ((minor : MinorReport) → n ≡ Some minor → CopiesInOrder p g b words d) → (m ≡ n) × (h ≡ i) × (c ≡ d)
  one_minor apart (Some r) (Some s) h i c d x y copies copies' = (
    ap (λ z. Some z) (pausing.one_report p g b apart words r s h i c d x.1 y.1 (copies r refl) (copies' s refl)),
    pausing.one_graph p g b apart words r s h i c d x.1 y.1 (copies r refl) (copies' s refl),
    pausing.one_book p g b apart words r s h i c d x.1 y.1 (copies r refl) (copies' s refl),
  )
  one_minor apart (Some r) None h i c d x y copies copies' = absurd (y.0 x.0)
  one_minor apart None (Some s) h i c d x y copies copies' = absurd (x.0 y.0)
  one_minor apart None None h i c d x y copies copies' = (refl, x.1 ∙ sym y.1, x.2 ∙ sym y.2)

  -- and the same major one
  one_major : (minor : Option MinorReport) (m n : Option MajorReport) (h i : Graph) (c d : Book) → MakesMajor p g b words requests minor m h c →
      MakesMajor p g b words requests minor n i d → (m ≡ n) × (h ≡ i) × (c ≡ d)
  one_major (Some minor) (Some r) (Some s) h i c d x y = (
    ap (λ z. Some z) (majoring.one_report p g b words r s h i c d x.1 y.1),
    majoring.one_graph p g b words r s h i c d x.1 y.1,
    majoring.one_book p g b words r s h i c d x.1 y.1,
  )
  one_major (Some minor) (Some r) None h i c d x y = absurd (y.0 x.0)
  one_major (Some minor) None (Some s) h i c d x y = absurd (x.0 y.0)
  one_major (Some minor) None None h i c d x y = (refl, x.1 ∙ sym y.1, x.2 ∙ sym y.2)
  one_major None (Some r) n h i c d x y = absurd x
  one_major None None (Some s) h i c d x y = absurd y
  one_major None None None h i c d x y = (refl, x.0 ∙ sym y.0, x.1 ∙ sym y.1)

  -- and both finish the owed sweep again behind it, or neither does
  one_room : (major : Option MajorReport) (c d : Book) → MakesRoom p g b requests major c → MakesRoom p g b requests major d → c ≡ d
  one_room None c d x y = x ∙ sym y
  one_room (Some report) c d (inl x) (inl y) = x.1 ∙ sym y.1
  one_room (Some report) c d (inl x) (inr y) = absurd (y.0 x.0)
  one_room (Some report) c d (inr x) (inl y) = absurd (x.0 y.0)
  one_room (Some report) c d (inr x) (inr y) = x.1 ∙ sym y.1

module _ (p : Program) (e : ℕ) (g : Graph) (b : Book) (sound : IsSoundBook p g b) (epoch : EpochReport) (r s : StopReport) (h i : Graph) (c d : Book)
    (x : IsStopInOrder p e g b epoch r h c) (y : IsStopInOrder p e g b epoch s i d) where
  abbrev requests : List Asked
  requests = requests_in epoch.parts

  abbrev words : List ℕ
  words = ambiguous_words p g b

  minor : (r.minor ≡ s.minor) × (x.is.minor_graph ≡ y.is.minor_graph) × (x.is.minor_book ≡ y.is.minor_book)
  minor =
      one_minor p g (swept_out b) words requests (apart_still p g b sound.apart) r.minor s.minor x.is.minor_graph y.is.minor_graph x.is.minor_book
      y.is.minor_book x.is.minor y.is.minor x.copies y.copies

  major_there : MakesMajor p x.is.minor_graph x.is.minor_book words requests r.minor s.major y.is.major_graph y.is.major_book
  major_there =
      let graph = λ (z : Graph). MakesMajor p z x.is.minor_book words requests r.minor s.major y.is.major_graph y.is.major_book in
      let book = λ (z : Book). MakesMajor p y.is.minor_graph z words requests r.minor s.major y.is.major_graph y.is.major_book in
      let report = λ (z : Option MinorReport). MakesMajor p y.is.minor_graph y.is.minor_book words requests z s.major y.is.major_graph y.is.major_book in
      subst graph (sym minor.1) (subst book (sym minor.2) (subst report (sym minor.0) y.is.major))

  major : (r.major ≡ s.major) × (x.is.major_graph ≡ y.is.major_graph) × (x.is.major_book ≡ y.is.major_book)
  major =
      one_major p x.is.minor_graph x.is.minor_book words requests r.minor r.major s.major x.is.major_graph y.is.major_graph x.is.major_book y.is.major_book
      x.is.major major_there

  room_there : MakesRoom p x.is.major_graph x.is.major_book requests r.major y.is.book
  room_there =
      let graph = λ (z : Graph). MakesRoom p z x.is.major_book requests r.major y.is.book in
      let book = λ (z : Book). MakesRoom p y.is.major_graph z requests r.major y.is.book in
      let report = λ (z : Option MajorReport). MakesRoom p y.is.major_graph y.is.major_book requests z y.is.book in
      subst graph (sym major.1) (subst book (sym major.2) (subst report (sym major.0) y.is.room))

  room : x.is.book ≡ y.is.book
  room = one_room p x.is.major_graph x.is.major_book words requests r.major x.is.book y.is.book x.is.room room_there

  there : Serves p (placing_behind r.major) x.is.major_graph x.is.book requests s.served i d
  there =
      let graph = λ (z : Graph). Serves p (placing_behind r.major) z x.is.book requests s.served i d in
      let book = λ (z : Book). Serves p (placing_behind r.major) y.is.major_graph z requests s.served i d in
      let report = λ (z : Option MajorReport). Serves p (placing_behind z) y.is.major_graph y.is.book requests s.served i d in
      subst graph (sym major.1) (subst book (sym room) (subst report (sym major.0) y.is.serves))

  served : (r.served ≡ s.served) × (h ≡ i) × (c ≡ d)
  served = one_serving p (placing_behind r.major) requests r.served s.served x.is.major_graph x.is.book h i c d x.is.serves there

  number : r.number ≡ s.number
  number = x.is.number ∙ sym y.is.number

  pub one_report : r ≡ s
  one_report = λ j. record { number = number j; minor = minor.0 j; major = major.0 j; served = served.0 j }

  pub one_graph : h ≡ i
  one_graph = served.1

  pub one_book : c ≡ d
  one_book = served.2
