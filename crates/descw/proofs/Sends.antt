-- The text of a send whose fields keep the rules spells it.
use Rattle.std.proofs.Common.{◌≡◌, ℕ, ◌≤◌, true, List, [], ◌∷◌, ◌++◌, length, refl, ◌∙◌, eq-eqb, arith}
use Rattle.std.specs.List.{list_all}
use Rattle.std.proofs.lemmas.Bool.{leb-true, eqb-true}
use Rattle.base.specs.declared.partition.Version.{Version}
use Rattle.base.specs.Pages.{are_disjoint}
use Rattle.base.specs.Descriptors.Send.{Endpoint, u32_at, pages_in, are_clear_flags, is_header, is_send, send_of, SpellsSend}
use Rattle.base.specs.Descriptors.Permissions.{are_attributes, are_permissions}
use Rattle.base.specs.Descriptors.Encoding.{HeaderFields, RangeFields, SendFields, header_text, send_text}
use Rattle.descw.specs.Fields.{are_range_fields, runs_of, are_send_fields, sent_by}
use Rattle.descw.specs.Inside.{FitsHeader, AreIdentifiers}
use Rattle.base.proofs.Booleans.{and_true, left, right}
use Rattle.descw.proofs.Header.{attributes_small, clear_flags_small}
use Rattle.descw.proofs.Order as order

-- the rules one by one
pub record KeepsSend (h : HeaderFields) (es : List Endpoint) (total : ℕ) (rs : List RangeFields) : Type 0 where
  pub attributes : are_attributes h.attributes ≡ true
  pub flags : are_clear_flags h.flags ≡ true
  pub handle : h.handle ≡ 0
  pub some_receivers : 1 ≤ length es
  pub few_receivers : length es ≤ 8
  pub permitted : list_all (λ e. are_permissions e.permissions) es ≡ true
  pub some_ranges : 1 ≤ length rs
  pub few_ranges : length rs ≤ 512
  pub valid : list_all are_range_fields rs ≡ true
  pub disjoint : are_disjoint (runs_of rs) ≡ true
  pub sum : pages_in (runs_of rs) ≡ total
  pub few_pages : total ≤ 262144

keeps_send : (f : SendFields) → are_send_fields f ≡ true → KeepsSend f.header f.receivers f.total f.ranges
unfolding are_send_fields
keeps_send f h =
    let l1 = left _ _ h in
    let l2 = left _ _ l1 in
    let l3 = left _ _ l2 in
    let l4 = left _ _ l3 in
    let l5 = left _ _ l4 in
    let l6 = left _ _ l5 in
    let l7 = left _ _ l6 in
    let l8 = left _ _ l7 in
    let l9 = left _ _ l8 in
    let l10 = left _ _ l9 in
    record {
      attributes = left _ _ l10;
      flags = right _ _ l10;
      handle = eqb-true f.header.handle 0 (right _ _ l9);
      some_receivers = leb-true 1 (length f.receivers) (right _ _ l8);
      few_receivers = leb-true (length f.receivers) 8 (right _ _ l7);
      permitted = right _ _ l6;
      some_ranges = leb-true 1 (length f.ranges) (right _ _ l5);
      few_ranges = leb-true (length f.ranges) 512 (right _ _ l4);
      valid = right _ _ l3;
      disjoint = right _ _ l2;
      sum = eqb-true (pages_in (runs_of f.ranges)) f.total (right _ _ l1);
      few_pages = leb-true f.total 262144 (right _ _ h);
    }

module _ (version : Version) (h : HeaderFields) (e : Endpoint) (es : List Endpoint) (total : ℕ) (rs : List RangeFields)
    (bytes : List ℕ) (parts : bytes ≡ header_text version h (length (e ∷ es)) ++ order.behind_header version (e ∷ es) total rs)
    (fits : FitsHeader h) (k : KeepsSend h (e ∷ es) total rs) where
  is_header-text : is_header version bytes ≡ true
  unfolding is_header
  is_header-text =
      let small = attributes_small h.attributes k.attributes in
      let attributes = order.attributes version h e es total rs bytes parts k.few_receivers k.few_ranges small in
      let flags = order.flags version h e es total rs bytes parts k.few_receivers k.few_ranges (clear_flags_small h.flags k.flags) in
      let ordered : are_clear_flags (u32_at bytes 4) ≡ true = rw flags k.flags in
      let handle = order.handle version h e es total rs bytes parts k.few_receivers k.few_ranges fits.handle ∙ k.handle in
      let rest = order.rest_of_header version h e es total rs bytes parts k.few_receivers k.few_ranges in
      and_true _ _ (and_true _ _ (and_true _ _ (rw attributes k.attributes) ordered) (eq-eqb _ _ handle)) rest

  is_send-text : is_send version bytes ≡ true
  unfolding is_send
  is_send-text =
      let layout = order.laid_out version h e es total rs bytes parts k.few_receivers k.few_ranges k.some_ranges in
      let accesses = order.accesses version h e es total rs bytes parts k.few_receivers k.few_ranges k.permitted in
      let ranges = order.ranges_valid version h e es total rs bytes parts k.few_receivers k.few_ranges k.valid in
      let read = order.ranges_read version h e es total rs bytes parts k.few_receivers k.few_ranges k.valid in
      let composite = order.is_composite-text version h e es total rs bytes parts k.few_receivers k.few_ranges k.valid k.sum k.few_pages in
      and_true _ _ (and_true _ _ (and_true _ _ (and_true _ _ (and_true _ _ layout is_header-text) accesses) ranges) (rw read k.disjoint)) composite

  send_of-text : AreIdentifiers (e ∷ es) → sent_by (record { header = h; receivers = e ∷ es; total = total; ranges = rs }) ≡ send_of version bytes
  unfolding send_of
  send_of-text identifiers =
      let small = attributes_small h.attributes k.attributes in
      let sender = order.sender version h e es total rs bytes parts k.few_receivers k.few_ranges fits.sender in
      let attributes = order.attributes version h e es total rs bytes parts k.few_receivers k.few_ranges small in
      let flags = order.flags version h e es total rs bytes parts k.few_receivers k.few_ranges (clear_flags_small h.flags k.flags) in
      let tag = order.tag version h e es total rs bytes parts k.few_receivers k.few_ranges fits.tag in
      let endpoints = order.endpoints version h e es total rs bytes parts k.few_receivers k.few_ranges identifiers in
      let read = order.ranges_read version h e es total rs bytes parts k.few_receivers k.few_ranges k.valid in
      rw (sender, attributes, flags, tag, endpoints, read) refl

spells : (version : Version) (h : HeaderFields) (es : List Endpoint) (total : ℕ) (rs : List RangeFields) (bytes : List ℕ)
    → bytes ≡ header_text version h (length es) ++ order.behind_header version es total rs → FitsHeader h → AreIdentifiers es → KeepsSend h es total rs
    → SpellsSend version bytes (sent_by (record { header = h; receivers = es; total = total; ranges = rs }))
spells version h [] total rs bytes parts fits identifiers k = absurd (omega (arith, k.some_receivers))
spells version h (e ∷ es) total rs bytes parts fits identifiers k =
    (is_send-text version h e es total rs bytes parts fits k, send_of-text version h e es total rs bytes parts fits k identifiers)

pub send_text-spells : (version : Version) (f : SendFields) (bytes : List ℕ) → bytes ≡ send_text version f → FitsHeader f.header → AreIdentifiers f.receivers
    → are_send_fields f ≡ true → SpellsSend version bytes (sent_by f)
unfolding send_text
send_text-spells version f bytes is fits identifiers valid =
    spells version f.header f.receivers f.total f.ranges bytes (is ∙ order.in_order version f.header f.receivers f.total f.ranges) fits identifiers (keeps_send f valid)
