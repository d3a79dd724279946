-- What a seat has in the end.
use Rattle.std.proofs.Common.{◌≡◌, ℕ, ◌+◌, ◌<◌, length, List, [], ◌∷◌, ◌++◌, refl, sym, ap, ◌∙◌, subst, arith}
use Rattle.std.specs.Prelude.{Contains}
use Rattle.std.specs.List.{AllByRecursion}
use Rattle.base.specs.Manifest.{ManifestRows}
use Rattle.base.specs.State.{start}
use Rattle.atomic_table.specs.Table.{Me}
use Rattle.desk.specs.declared.entry.Entry.{Entry}
use Rattle.desk.specs.declared.receipt.Receipt.{Receipt}
use Rattle.desk.specs.declared.pass.Known.{Known}
use Rattle.desk.specs.declared.pass.View.{View}
use Rattle.desk.specs.declared.pass.View.TheVariants.{Keeper, Seated}
use Rattle.rules.specs.Call.{CallWords}
use Rattle.desk.specs.Receipts.{entry, next_receipt, receipts_at, count_of, AreReceiptsOf}
use Rattle.desk.specs.Seats.{SeatView, IsSettled, Sees, IsServed, numbers_of, AreSettled}
use Rattle.desk.specs.Passes.{IsOut, IsSeat, number_of, seen_of, known_of, with_home, AreDistinct}
use Rattle.desk.proofs.Numbers.{distinct_push, all_found}
use Rattle.desk.proofs.Receipts.{are_receipts, receipts_from-others, receipts_at-answered, length-receipts_from, count_of-own, count_of-others}

-- what a seat that is up to date was answered is all that it was answered
pub answered_whole : (m : ManifestRows) (n : ℕ) (k : Known) (seen : List Entry) (receipts : List Receipt) → IsOut k n seen → receipts ≡ receipts_at m n seen → receipts ≡ receipts_at m n k.history
answered_whole m n k seen receipts out is =
    is ∙ sym (ap (receipts_at m n) out.knows.goes_on ∙ receipts_from-others n (start m) 0 seen out.knows.rest out.knows.without_it)

-- the number on a pass
pub number_is : (n : ℕ) (me : Me Entry View) → IsSeat n me → number_of me.0 ≡ n
number_is n me is = ap (λ (x : Me Entry View). number_of x.0) is

-- the seats that came home are apart
pub home_apart : (k : Known) (n : ℕ) (me : Me Entry View) (seen : List Entry) → AreDistinct k.home → IsOut k n seen → me ≡ (Keeper (with_home k n), []) → AreDistinct (known_of me.0).home
home_apart k n me seen apart out is =
    subst (λ (x : Me Entry View). AreDistinct (known_of x.0).home) (sym is) (distinct_push k.home n apart out.away)

-- ---- after a call

-- the seat after a call, by what its pass knows then
abbrev pub next_seat : SeatView → Me Entry View → List Receipt → SeatView
next_seat old me receipts = record { number = old.number; seen = seen_of me.0; receipts = receipts }

pub seen_is : (m : ManifestRows) (call : CallWords) (n : ℕ) (seen : List Entry) (me : Me Entry View) (r : Receipt) → (sees : Sees m n call seen me r)
    → seen_of me.0 ≡ (seen ++ sees.others) ++ entry n call ∷ []
seen_is m call n seen me r sees = ap (λ (x : Me Entry View). seen_of x.0) sees.knows

pub seat_known : (m : ManifestRows) (call : CallWords) (n : ℕ) (seen : List Entry) (me : Me Entry View) (r : Receipt) → Sees m n call seen me r → IsSeat n me
seat_known m call n seen me r sees = sees.knows ∙ ap (λ (s : List Entry). (Seated n s, [])) (sym (seen_is m call n seen me r sees))

pub answered : (m : ManifestRows) (call : CallWords) (old : SeatView) (me : Me Entry View) (r : Receipt) (receipts : List Receipt) → IsSettled m old
    → Sees m old.number call old.seen me r → receipts ≡ old.receipts ++ r ∷ [] → IsServed m call old (next_seat old me receipts)
answered m call old me r receipts settled sees more =
    let n = old.number in
    let seen = seen_is m call n old.seen me r sees in
    let e : Entry = entry n call in
    let count : count_of n ((old.seen ++ sees.others) ++ e ∷ []) ≡ length old.receipts + 1 =
    count_of-own n (old.seen ++ sees.others) e refl
    ∙ ap (λ k. k + 1) (count_of-others n old.seen sees.others sees.of_others ∙ sym (ap length settled.answered ∙ length-receipts_from n (start m) 0 old.seen)) in
    record {
      others = sees.others;
      of_others = sees.of_others;
      seen = seen;
      receipt = more ∙ ap (λ x. old.receipts ++ x ∷ []) sees.receipt;
      count = ap (count_of n) seen ∙ count;
    }

pub settled_more : (m : ManifestRows) (call : CallWords) (old : SeatView) (me : Me Entry View) (r : Receipt) (receipts : List Receipt) → IsSettled m old
    → Sees m old.number call old.seen me r → receipts ≡ old.receipts ++ r ∷ [] → IsSettled m (next_seat old me receipts)
settled_more m call old me r receipts settled sees more =
    let n = old.number in
    let e : Entry = entry n call in
    let seen = seen_is m call n old.seen me r sees in
    let last = next_receipt m (old.seen ++ sees.others) call in
    let all : receipts_at m n ((old.seen ++ sees.others) ++ e ∷ []) ≡ receipts_at m n old.seen ++ last ∷ [] =
    receipts_at-answered m n old.seen sees.others e refl sees.of_others in
    let here : receipts ≡ receipts_at m n old.seen ++ last ∷ [] =
    more ∙ ap (λ x. old.receipts ++ x ∷ []) sees.receipt ∙ ap (λ rs. rs ++ last ∷ []) settled.answered in
    record { below = settled.below; answered = here ∙ sym all ∙ ap (receipts_at m n) (sym seen) }

-- ---- in the end

each_settled : (m : ManifestRows) (entries : List Entry) (seats : List SeatView) → AllByRecursion (λ s. s.receipts ≡ receipts_at m s.number entries) seats
    → AllByRecursion (λ s. AreReceiptsOf m entries s.number s.receipts) seats
each_settled m entries [] whole = tt
each_settled m entries (s ∷ ss) whole =
    (subst (AreReceiptsOf m entries s.number) (sym whole.0) (are_receipts m s.number entries), each_settled m entries ss whole.1)

each_seated : (numbers : List ℕ) (entries : List Entry) → ((n : ℕ) → n < 8 → Contains numbers n) → AllByRecursion (λ e. e.seat < 8) entries → AllByRecursion (λ e. Contains numbers e.seat) entries
each_seated numbers [] all below = tt
each_seated numbers (e ∷ es) all below = (all e.seat below.0, each_seated numbers es all below.1)

length-numbers_of : (seats : List SeatView) → length (numbers_of seats) ≡ length seats
length-numbers_of [] = refl
length-numbers_of (s ∷ ss) = omega (arith, length-numbers_of ss)

-- eight seats that are apart have all receipts of a book
pub all_settled : (m : ManifestRows) (entries : List Entry) (seats : List SeatView) → length seats ≡ 8 → AllByRecursion (λ s. s.receipts ≡ receipts_at m s.number entries) seats
    → AllByRecursion (λ n. n < 8) (numbers_of seats) → AreDistinct (numbers_of seats) → AllByRecursion (λ e. e.seat < 8) entries → AreSettled m entries seats
all_settled m entries seats count whole below apart run = record {
  each = each_settled m entries seats whole;
  seated = each_seated (numbers_of seats) entries (all_found 8 (numbers_of seats) apart below (length-numbers_of seats ∙ count)) run;
  apart = apart;
}
