-- Parts that are put together of numbers of 8 bytes.
use Rattle.std.proofs.Common.{◌≡◌, ℕ, ◌<◌, List, [], ◌∷◌, ◌++◌, ap, ◌∙◌, arith, append_assoc}
use Rattle.byteorder.specs.Endian.{little_bytes}
use Rattle.base.specs.declared.partition.Version.{Version}
use Rattle.base.specs.declared.partition.Version.TheVariants.{V11}
use Rattle.base.specs.Descriptors.Send.{Endpoint}
use Rattle.base.specs.Descriptors.Encoding.{HeaderFields, header_text, header_end, access_text}

-- a byte as a number of 2 bytes
wide : (b : ℕ) → b < 256 → little_bytes 2 b ≡ b ∷ 0 ∷ []
wide b lt = grind arith

pub access_joined : (old : List ℕ) (composite low head partition byte : ℕ) (e : Endpoint)
    → little_bytes 8 low ≡ little_bytes 4 head ++ little_bytes 4 composite
    → little_bytes 4 head ≡ little_bytes 2 partition ++ little_bytes 2 byte
    → partition ≡ e.partition → byte ≡ e.permissions → byte < 256
    → old ++ (little_bytes 8 low ++ little_bytes 8 0) ≡ old ++ access_text composite e
access_joined old composite low head partition byte e words halves is_partition is_byte lt =
    let one = halves ∙ ap (λ xs. little_bytes 2 partition ++ xs) (wide byte lt) in
    let two = words ∙ ap (λ xs. xs ++ little_bytes 4 composite) one in
    rw (← is_partition, ← is_byte) (ap (λ xs. old ++ (xs ++ little_bytes 8 0)) two)

pub header_joined : (version : Version) (old new : List ℕ) (count low head sender attributes : ℕ) (h : HeaderFields)
    → little_bytes 8 low ≡ little_bytes 4 head ++ little_bytes 4 h.flags
    → little_bytes 4 head ≡ little_bytes 2 sender ++ little_bytes 2 attributes
    → sender ≡ h.sender → attributes ≡ h.attributes
    → new ≡ old ++ (little_bytes 8 low ++ little_bytes 8 h.handle)
    → new ++ (little_bytes 8 h.tag ++ header_end version count) ≡ old ++ header_text version h count
header_joined version old new count low head sender attributes h words halves is_sender is_attributes is_new =
    let two = words ∙ ap (λ xs. xs ++ little_bytes 4 h.flags) halves in
    let rest = little_bytes 8 h.tag ++ header_end version count in
    rw (is_new, ← is_sender, ← is_attributes) (append_assoc old (little_bytes 8 low ++ little_bytes 8 h.handle) rest ∙ ap (λ xs. old ++ (xs ++ (little_bytes 8 h.handle ++ rest))) two)

pub header_end_joined : (version : Version) (old new : List ℕ) (count low array tag : ℕ) → version ≡ V11
    → little_bytes 8 low ≡ little_bytes 4 16 ++ little_bytes 4 count → array ≡ 48
    → new ≡ old ++ (little_bytes 8 tag ++ little_bytes 8 low)
    → new ++ (little_bytes 8 array ++ little_bytes 8 0) ≡ old ++ (little_bytes 8 tag ++ header_end version count)
header_end_joined version old new count low array tag is_V11 words is_48 is_new =
    let rest = little_bytes 8 48 ++ little_bytes 8 0 in
    rw (is_new, is_V11, is_48) (append_assoc old (little_bytes 8 tag ++ little_bytes 8 low) rest ∙ ap (λ xs. old ++ (little_bytes 8 tag ++ (xs ++ rest))) words)
