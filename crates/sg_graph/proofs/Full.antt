-- `full` is told only behind a major pause: where none was made, each request has a place.
use Rattle.std.proofs.Common.{◌≡◌, ℕ, zero, suc, ◌<◌, Option, Some, None, inr, List, [], ◌∷◌, length, slice_index_or, sym, refl, ◌∙◌, subst, arith}
use Rattle.std.specs.List.{Contains}
use Rattle.sg_program.specs.declared.program.Program.{Program}
use Rattle.sg_program.specs.declared.answers.Answer.{Answer}
use Rattle.sg_program.specs.declared.answers.Answer.TheVariants.{At, Nil, Null, Number, Fine, Yes, No, Field, Full}
use Rattle.sg_graph.specs.declared.reports.MinorReport.{MinorReport}
use Rattle.sg_graph.specs.declared.reports.MajorReport.{MajorReport}
use Rattle.sg_graph.specs.declared.reports.Service.{Service}
use Rattle.sg_graph.specs.Graph.{Graph}
use Rattle.sg_graph.specs.Book.{Book, swept_out}
use Rattle.sg_graph.specs.Epoch.{by_address}
use Rattle.sg_graph.specs.Pause.{ambiguous_words}
use Rattle.sg_graph.specs.Stop.{Asked, Placing, InFragments, placing_behind, IsServed, Serves, IsAnswered, LacksOne, ThisOne, OneBehind, MakesMinor, MakesMajor, MakesRoom}
use Rattle.sg_graph.specs.Laws.{FullIsLast}

-- `full` is told of no other answer
told_full : (c : Book) (a : Answer) → by_address c a ≡ Full → a ≡ Full
told_full c (At name) e = absurd (cc e)
told_full c Nil e = absurd (cc e)
told_full c Null e = absurd (cc e)
told_full c (Number n) e = absurd (cc e)
told_full c Fine e = absurd (cc e)
told_full c Yes e = absurd (cc e)
told_full c No e = absurd (cc e)
told_full c Field e = absurd (cc e)
told_full c Full e = refl

module _ (p : Program) (how : Placing) where
  answered : (g : Graph) (b : Book) (asked : Asked) (service : Service) (h : Graph) (c : Book) (x : IsServed p how g b asked service h c) →
      IsAnswered p how g b asked x.answer h c
  answered g b asked service h c x = record { statement = x.statement; rest = x.rest; next = x.next; does = x.does; places = x.places }

  answered_full : (g : Graph) (b : Book) (asked : Asked) (service : Service) (h : Graph) (c : Book) → IsServed p how g b asked service h c →
      service.answer ≡ Full → IsAnswered p how g b asked Full h c
  answered_full g b asked service h c x e =
      subst (λ a. IsAnswered p how g b asked a h c) (told_full c x.answer (sym x.told ∙ e)) (answered g b asked service h c x)

  -- a service that tells it shows a request without a place
  lacks : (requests : List Asked) (services : List Service) (g : Graph) (b : Book) (h : Graph) (c : Book) → Serves p how g b requests services h c →
      (service : Service) (k : ℕ) → k < length services → slice_index_or services k service ≡ service → service.answer ≡ Full → LacksOne p how g b requests
  lacks [] [] g b h c x service k l e full = absurd (omega arith)
  lacks [] (first ∷ services) g b h c x service k l e full = absurd x
  lacks (asked ∷ more) [] g b h c x service k l e full = absurd x
  lacks (asked ∷ more) (first ∷ services) g b h c (h1, c1, served, later) service zero l e full =
      ThisOne g b asked more h1 c1 (answered_full g b asked service h1 c1 (subst (λ v. IsServed p how g b asked v h1 c1) e served) full)
  lacks (asked ∷ more) (first ∷ services) g b h c (h1, c1, served, later) service (suc k) l e full =
      OneBehind g b asked more served.answer h1 c1 (answered g b asked first h1 c1 served)
      (lacks more services h1 c1 h c later service k (omega arith) e full)

module _ (p : Program) (words : List ℕ) (requests : List Asked) (served : List Service) (service : Service) (there : Contains served service)
    (full : service.answer ≡ Full) where
  -- the same of the graph and the book before
  lacks_before : (g h : Graph) (b c : Book) (i : Graph) (d : Book) → h ≡ g → c ≡ b → Serves p InFragments h c requests served i d →
      LacksOne p InFragments g b requests
  lacks_before g h b c i d e q x =
      subst (λ (z : Graph). LacksOne p InFragments z b requests) e
      (subst (λ (z : Book). LacksOne p InFragments h z requests) q (lacks p InFragments requests served h c i d x service there.0 there.1 there.2 full))

  behind_major : (minor : Option MinorReport) (major : Option MajorReport) (g h i j : Graph) (b c d e f : Book) →
      MakesMinor p g b words requests minor h c → MakesMajor p h c words requests minor major i d → MakesRoom p i d requests major e →
      Serves p (placing_behind major) i e requests served j f → (report : MajorReport) × (major ≡ Some report)
  behind_major minor (Some report) g h i j b c d e f x y room serves = (report, refl)
  behind_major None None g h i j b c d e f x y room serves =
      absurd (x.0 (inr (lacks_before g i b e j f (y.0 ∙ x.1) (room ∙ y.1 ∙ x.2) serves)))
  behind_major (Some minor) None g h i j b c d e f x y room serves =
      absurd (y.0 (inr (inr (lacks_before h i c e j f y.1 (room ∙ y.2) serves))))

pub full_is_last : FullIsLast
full_is_last p e g b requests report h c x service there full =
    behind_major p (ambiguous_words p g b) requests report.served service there full report.minor report.major g x.minor_graph x.major_graph h (swept_out b)
    x.minor_book x.major_book x.book c x.minor x.major x.room x.serves
