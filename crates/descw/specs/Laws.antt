-- A response has one text.
use Rattle.std.specs.Prelude.{◌≡◌, ℕ, ◌<◌, List, All, IsTrue}
use Rattle.base.specs.declared.partition.Version.{Version}
use Rattle.base.specs.Descriptors.Response.{is_response, response_of}
use Rattle.base.specs.Descriptors.Encoding.{response_text}

abbrev pub HaveResponsesOneText : Type 0
HaveResponsesOneText =
    (version : Version) (bytes : List ℕ) → All (λ byte. byte < 256) bytes
    → IsTrue (is_response version bytes) → bytes ≡ response_text version (response_of version bytes)
