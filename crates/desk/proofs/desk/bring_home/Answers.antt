use Rattle.std.proofs.Common.{◌≡◌, ◌<◌, ℕ, List, [], ◌∷◌, ◌++◌, length, rules, sym, ap, ◌∙◌, subst}
use Rattle.std.specs.List.{AllByRecursion}
use Rattle.desk.specs.declared.entry.Entry.{Entry}
use Rattle.desk.specs.declared.receipt.Receipt.{Receipt}
use Rattle.desk.specs.Receipts.{receipts_at}
use Rattle.desk.specs.Passes.{known_of, AreDistinct}
use Rattle.desk.specs.Seats.{SeatView, numbers_of, receipts_of}
use Rattle.desk.proofs.Eight.{eight}
use Rattle.desk.proofs.desk.bring_home.Goals as goal

pub returns-clause-receipts : goal.returns-clause-receipts
returns-clause-receipts g c =
    let are = eight {A = SeatView} c.args.seats (search rules) c.a-1.given.0 c.b-1.given.0 c.c-1.given.0 c.d-1.given.0 c.e-1.given.0 c.f-1.given.0 c.g-1.given.0 c.h-1.given.0 c.a-1.given.1 c.b-1.given.1 c.c-1.given.1 c.d-1.given.1 c.e-1.given.1 c.f-1.given.1 c.g-1.given.1 c.h-1.given.1 in
    let same : ◌≡◌ {A = List (List Receipt)} (c.go_home.result.items ∷ c.go_home-2.result.items ∷ c.go_home-3.result.items ∷ c.go_home-4.result.items ∷ c.go_home-5.result.items ∷ c.go_home-6.result.items ∷ c.go_home-7.result.items ∷ c.go_home-8.result.items ∷ []) (c.a-1.given.0.receipts ∷ c.b-1.given.0.receipts ∷ c.c-1.given.0.receipts ∷ c.d-1.given.0.receipts ∷ c.e-1.given.0.receipts ∷ c.f-1.given.0.receipts ∷ c.g-1.given.0.receipts ∷ c.h-1.given.0.receipts ∷ []) = λ i. c.go_home.ensures.same_receipts i ∷ c.go_home-2.ensures.same_receipts i ∷ c.go_home-3.ensures.same_receipts i ∷ c.go_home-4.ensures.same_receipts i ∷ c.go_home-5.ensures.same_receipts i ∷ c.go_home-6.ensures.same_receipts i ∷ c.go_home-7.ensures.same_receipts i ∷ c.go_home-8.ensures.same_receipts i ∷ [] in
    same ∙ ap receipts_of are

pub returns-clause-whole : goal.returns-clause-whole
returns-clause-whole g c =
    let m = g.J.Naming.manifest in
    let h1 : List Entry = (known_of c.args.keeper.now.me.0).history in
    let are = eight {A = SeatView} c.args.seats (search rules) c.a-1.given.0 c.b-1.given.0 c.c-1.given.0 c.d-1.given.0 c.e-1.given.0 c.f-1.given.0 c.g-1.given.0 c.h-1.given.0 c.a-1.given.1 c.b-1.given.1 c.c-1.given.1 c.d-1.given.1 c.e-1.given.1 c.f-1.given.1 c.g-1.given.1 c.h-1.given.1 in
    let q1 = c.go_home.ensures.history in
    let q2 = c.go_home-2.ensures.history ∙ q1 in
    let q3 = c.go_home-3.ensures.history ∙ q2 in
    let q4 = c.go_home-4.ensures.history ∙ q3 in
    let q5 = c.go_home-5.ensures.history ∙ q4 in
    let q6 = c.go_home-6.ensures.history ∙ q5 in
    let q7 = c.go_home-7.ensures.history ∙ q6 in
    subst (AllByRecursion (λ (s : SeatView). s.receipts ≡ receipts_at m s.number h1)) are
    (c.go_home.ensures.receipts, (c.go_home-2.ensures.receipts ∙ ap (receipts_at m c.b-1.given.0.number) q1, (c.go_home-3.ensures.receipts ∙ ap (receipts_at m c.c-1.given.0.number) q2, (c.go_home-4.ensures.receipts ∙ ap (receipts_at m c.d-1.given.0.number) q3, (c.go_home-5.ensures.receipts ∙ ap (receipts_at m c.e-1.given.0.number) q4, (c.go_home-6.ensures.receipts ∙ ap (receipts_at m c.f-1.given.0.number) q5, (c.go_home-7.ensures.receipts ∙ ap (receipts_at m c.g-1.given.0.number) q6, (c.go_home-8.ensures.receipts ∙ ap (receipts_at m c.h-1.given.0.number) q7, tt))))))))

pub returns-clause-below : goal.returns-clause-below
returns-clause-below g c =
    let are = eight {A = SeatView} c.args.seats (search rules) c.a-1.given.0 c.b-1.given.0 c.c-1.given.0 c.d-1.given.0 c.e-1.given.0 c.f-1.given.0 c.g-1.given.0 c.h-1.given.0 c.a-1.given.1 c.b-1.given.1 c.c-1.given.1 c.d-1.given.1 c.e-1.given.1 c.f-1.given.1 c.g-1.given.1 c.h-1.given.1 in
    subst (λ (ss : List SeatView). AllByRecursion (λ n. n < 8) (numbers_of ss)) are
    (c.go_home.ensures.below, (c.go_home-2.ensures.below, (c.go_home-3.ensures.below, (c.go_home-4.ensures.below, (c.go_home-5.ensures.below, (c.go_home-6.ensures.below, (c.go_home-7.ensures.below, (c.go_home-8.ensures.below, tt))))))))

pub returns-clause-apart : goal.returns-clause-apart
returns-clause-apart g c =
    let are = eight {A = SeatView} c.args.seats (search rules) c.a-1.given.0 c.b-1.given.0 c.c-1.given.0 c.d-1.given.0 c.e-1.given.0 c.f-1.given.0 c.g-1.given.0 c.h-1.given.0 c.a-1.given.1 c.b-1.given.1 c.c-1.given.1 c.d-1.given.1 c.e-1.given.1 c.f-1.given.1 c.g-1.given.1 c.h-1.given.1 in
    let r1 = c.go_home.ensures.home ∙ ap (λ (ns : List ℕ). ns ++ c.a-1.given.0.number ∷ []) c.requires.nobody_home in
    let r2 = c.go_home-2.ensures.home ∙ ap (λ (ns : List ℕ). ns ++ c.b-1.given.0.number ∷ []) r1 in
    let r3 = c.go_home-3.ensures.home ∙ ap (λ (ns : List ℕ). ns ++ c.c-1.given.0.number ∷ []) r2 in
    let r4 = c.go_home-4.ensures.home ∙ ap (λ (ns : List ℕ). ns ++ c.d-1.given.0.number ∷ []) r3 in
    let r5 = c.go_home-5.ensures.home ∙ ap (λ (ns : List ℕ). ns ++ c.e-1.given.0.number ∷ []) r4 in
    let r6 = c.go_home-6.ensures.home ∙ ap (λ (ns : List ℕ). ns ++ c.f-1.given.0.number ∷ []) r5 in
    let r7 = c.go_home-7.ensures.home ∙ ap (λ (ns : List ℕ). ns ++ c.g-1.given.0.number ∷ []) r6 in
    let r8 = c.go_home-8.ensures.home ∙ ap (λ (ns : List ℕ). ns ++ c.h-1.given.0.number ∷ []) r7 in
    subst (λ (ss : List SeatView). AreDistinct (numbers_of ss)) are (subst AreDistinct r8 c.go_home-8.ensures.apart)
