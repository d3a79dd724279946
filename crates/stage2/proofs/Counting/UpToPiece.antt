-- What an edit needs for the chunks of a gigabyte before one, and which runs are left for the others: one piece after another.
use Rattle.stage2.proofs.Names.{View, count_below, PageRun, edited, touches_chunk, sum_below, table_operations, chunk_operations, Piece, Plan, grows_at, IsNextPiece, ◌≡◌, ℕ, ◌+◌, ◌-◌, ◌*◌, ◌<◌, ◌≤◌, Bool, false, cond, List, sym, ap, ◌∙◌, arith}
use Rattle.pool.proofs.Count.{count_below-none, count_below-tail, count_below-more}
use Rattle.stage2.proofs.Counting.Growth.{grows-nothing}
use Rattle.stage2.proofs.Editing.ChunkByChunk.{bit, bit-most, sum_below-more, sum_below-each, untouched}
use Rattle.stage2.proofs.Runs.Between.{AreLeft, left-all, left-later, left-past}
use Rattle.stage2.proofs.Runs.Left.{left-touches, left-grows, left-operations}
use Rattle.stage2.proofs.Runs.Spans.{sum_below-none, sum_below-tail}

-- the tables and operations of the chunks before the i-th are planned
pub record IsPlanned (g : ℕ) (runs : List PageRun) (access : View) (v : ℕ → View) (i : ℕ) (rest : List PageRun) (plan : Plan) : Type 0 where
  pub tables : plan.tables ≡ count_below (λ x. grows_at v (edited runs access v) (512 * g + x)) i
  pub operations : sum_below (λ x. chunk_operations runs access v (512 * g + x)) i ≤ plan.operations
  pub few : plan.tables ≤ i
  pub most : plan.operations ≤ 1027 * i
  pub left : AreLeft (512 * g + i) rest runs
  pub last : i ≤ 512

abbrev grows : ℕ → List PageRun → View → (ℕ → View) → ℕ → Bool
grows g runs access v x = grows_at v (edited runs access v) (512 * g + x)

abbrev cost : ℕ → List PageRun → View → (ℕ → View) → ℕ → ℕ
cost g runs access v x = chunk_operations runs access v (512 * g + x)

module _ {g : ℕ} {runs : List PageRun} {access : View} {v : ℕ → View} where
  pub planned-start : {plan : Plan} → plan ≡ record { tables = 0; operations = 0 } → IsPlanned g runs access v 0 runs plan
  planned-start is = rw is record {
    tables = sym (count_below-none (grows g runs access v) 0 (λ k lt. absurd (omega (arith, lt))));
    operations = let none = sum_below-none (cost g runs access v) 0 (λ k lt. absurd (omega (arith, lt))) in omega (arith, none);
    few = omega arith;
    most = omega arith;
    left = left-all (512 * g + 0) runs;
    last = omega arith;
  }

  module _ {i : ℕ} {rest : List PageRun} {plan : Plan} (so : IsPlanned g runs access v i rest plan) where
    spare : (x : ℕ) → i ≤ x → touches_chunk (512 * g + x) rest ≡ false → touches_chunk (512 * g + x) runs ≡ false
    spare x from none = sym (left-touches (512 * g + x) rest runs (left-later (512 * g + i) (512 * g + x) rest runs (omega (arith, from)) so.left)) ∙ none

    -- chunks that no run touches need nothing
    gap : (k : ℕ) → i ≤ k → k ≤ 512 → ((x : ℕ) → i ≤ x → x < k → touches_chunk (512 * g + x) rest ≡ false) → (later : List PageRun) → AreLeft (512 * g + k) later runs → IsPlanned g runs access v k later plan
    gap k from most apart later left =
        let nothing = sum_below-tail (cost g runs access v) i k from (λ x low lt. ap (λ t. cond t (3 + table_operations runs access v (512 * g + x)) 0) (spare x low (apart x low lt))) in
        let few = so.few in
        record {
          tables = so.tables ∙ sym (count_below-tail (grows g runs access v) i k from (λ x low lt. grows-nothing runs access v (512 * g + x) (λ n at. untouched (512 * g + x) runs n (spare x low (apart x low lt)) at)));
          operations = omega (arith, nothing, so.operations);
          few = omega (arith, few, from);
          most = omega (arith, so.most, from);
          left = left;
          last = most;
        }

    pub planned-piece : {piece : Piece} → IsNextPiece g i rest piece → IsPlanned g runs access v piece.first piece.runs plan
    planned-piece {piece} next =
        gap piece.first next.from (omega (arith, next.small)) next.apart piece.runs
        (left-past (512 * g + piece.first) (512 * (512 * g + piece.first)) rest piece.runs runs (λ _. 512 * (512 * g + piece.first)) next.past (left-later (512 * g + i) (512 * g + piece.first) rest runs (omega (arith, next.from)) so.left))

    pub planned-end : ((x : ℕ) → i ≤ x → x < 512 → touches_chunk (512 * g + x) rest ≡ false) → IsPlanned g runs access v 512 rest plan
    planned-end none = gap 512 so.last (omega arith) none rest (left-later (512 * g + i) (512 * g + 512) rest runs (omega (arith, so.last)) so.left)

    -- chunks that take no table, and three operations each
    pub planned-filled : {end : ℕ} → i < end → end ≤ 512 → ((x : ℕ) → i ≤ x → x < end → grows_at v (edited runs access v) (512 * g + x) ≡ false) → ((x : ℕ) → i ≤ x → x < end → chunk_operations runs access v (512 * g + x) ≡ 3)
        → {next : Plan} → next ≡ record { tables = plan.tables; operations = plan.operations + 3 * (end - i) } → IsPlanned g runs access v end rest next
    planned-filled {end} ahead most none three is =
        let all : i + (end - i) ≡ end = omega (arith, ahead) in
        let few = so.few in
        rw is record {
          tables = so.tables ∙ sym (count_below-tail (grows g runs access v) i end (omega (arith, ahead)) none);
          operations = omega (arith, sum_below-each (cost g runs access v) i (end - i) 3 (λ x from to. three x from (omega (arith, to, ahead))), (ap (sum_below (cost g runs access v)) all), so.operations);
          few = omega (arith, few, ahead);
          most = omega (arith, so.most, ahead);
          left = left-later (512 * g + i) (512 * g + end) rest runs (omega (arith, ahead)) so.left;
          last = most;
        }

    -- the next chunk, by the runs that are left
    pub planned-one : i < 512 → {one next : Plan} → next ≡ record { tables = plan.tables + one.tables; operations = plan.operations + one.operations }
        → one.tables ≡ bit (grows_at v (edited rest access v) (512 * g + i)) → chunk_operations rest access v (512 * g + i) ≤ one.operations → one.operations ≤ 1027 → IsPlanned g runs access v (i + 1) rest next
    planned-one lt {one} is tables operations most =
        let left = left-later (512 * g + i) (512 * g + i) rest runs (omega arith) so.left in
        let grown : one.tables ≡ bit (grows g runs access v i) = tables ∙ ap bit (left-grows (512 * g + i) rest runs left access v) in
        let made = left-operations (512 * g + i) rest runs left access v in
        let count = count_below-more (grows g runs access v) i in
        let sum = sum_below-more (cost g runs access v) i in
        rw is record {
          tables = omega (arith, so.tables, grown, count);
          operations = omega (arith, so.operations, made, operations, sum);
          few = let few = so.few in omega (arith, few, grown, bit-most (grows g runs access v i));
          most = let many = so.most in omega (arith, many, most);
          left = left-later (512 * g + i) (512 * g + (i + 1)) rest runs (omega arith) so.left;
          last = omega (arith, lt);
        }
