-- The layouts of FF-A 1.0 and 1.1 want different numbers at byte 24.
use Rattle.std.proofs.Common.{◌≡◌, ℕ, true, eqb, List, arith}
use Rattle.std.proofs.lemmas.Bool.{eqb-true}
use Rattle.base.specs.declared.partition.Version.TheVariants.{V10, V11}
use Rattle.base.specs.Descriptors.Send.{u32_at, is_header, is_send}
use Rattle.base.specs.Descriptors.Retrieve.{is_retrieve_header, is_retrieve}
use Rattle.descr.specs.Laws.{AreSendsApart, AreRetrievesApart}
use Rattle.descr.proofs.Tests.{left, right, not_true}

not_both : (n : ℕ) → eqb n 0 ≡ true → eqb n 16 ≡ true → ⊥
not_both n zero sixteen =
    let a : n ≡ 0 = eqb-true n 0 zero in
    let b : n ≡ 16 = eqb-true n 16 sixteen in
    omega arith

at_24-V10 : (bytes : List ℕ) → is_header V10 bytes ≡ true → eqb (u32_at bytes 24) 0 ≡ true
unfolding is_header
at_24-V10 bytes h = right _ _ h

at_24-V11 : (bytes : List ℕ) → is_header V11 bytes ≡ true → eqb (u32_at bytes 24) 16 ≡ true
unfolding is_header
at_24-V11 bytes h = left _ _ (left _ _ (left _ _ (right _ _ h)))

header-retrieve-V10 : (bytes : List ℕ) → is_retrieve_header V10 bytes ≡ true → eqb (u32_at bytes 24) 0 ≡ true
unfolding is_retrieve_header
header-retrieve-V10 bytes h = right _ _ h

header-retrieve-V11 : (bytes : List ℕ) → is_retrieve_header V11 bytes ≡ true → eqb (u32_at bytes 24) 16 ≡ true
unfolding is_retrieve_header
header-retrieve-V11 bytes h = left _ _ (left _ _ (left _ _ (right _ _ h)))

pub sends_apart : AreSendsApart
unfolding is_send
sends_apart bytes =
    not_true _ (λ h.
    let a = left _ _ h in
    let b = right _ _ h in
    not_both (u32_at bytes 24) (at_24-V10 bytes (right _ _ (left _ _ (left _ _ (left _ _ (left _ _ a)))))) (at_24-V11 bytes (right _ _ (left _ _ (left _ _ (left _ _ (left _ _ b)))))))

pub retrieves_apart : AreRetrievesApart
unfolding is_retrieve
retrieves_apart bytes =
    not_true _ (λ h.
    let a = left _ _ h in
    let b = right _ _ h in
    not_both (u32_at bytes 24) (header-retrieve-V10 bytes (right _ _ (left _ _ a))) (header-retrieve-V11 bytes (right _ _ (left _ _ b))))
