-- No bytes are descriptors in the layouts of both versions.
use Rattle.std.specs.Prelude.{◌≡◌, ℕ, false, ◌&&◌, List}
use Rattle.base.specs.declared.partition.Version.TheVariants.{V10, V11}
use Rattle.base.specs.Descriptors.Send.{is_send}
use Rattle.base.specs.Descriptors.Retrieve.{is_retrieve}

abbrev pub AreSendsApart : Type 0
AreSendsApart = (bytes : List ℕ) → (is_send V10 bytes && is_send V11 bytes) ≡ false

abbrev pub AreRetrievesApart : Type 0
AreRetrievesApart = (bytes : List ℕ) → (is_retrieve V10 bytes && is_retrieve V11 bytes) ≡ false
