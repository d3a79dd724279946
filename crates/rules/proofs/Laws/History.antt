-- The last donation of a run decides who owns a page, and what it is to its owner.
use Rattle.std.proofs.Common.{◌≡◌, ℕ, Bool, true, false, cond, List, [], ◌∷◌, Option, Some, None, refl, sym, ap, ◌∙◌}
use Rattle.std.specs.Option.{option_map_or, option_and_then}
use Rattle.base.specs.declared.status.Status.{Status}
use Rattle.base.specs.declared.status.Status.TheVariants.{NotSupported, Denied}
use Rattle.base.specs.declared.transaction.Kind.{Kind}
use Rattle.base.specs.declared.transaction.Kind.TheVariants.{Share, Lend, Donate}
use Rattle.base.specs.Access.{Access}
use Rattle.base.specs.Descriptors.Send as descriptor
use Rattle.base.specs.Ledger.{owner, home, with_donation_of}
use Rattle.base.specs.Manifest.{ManifestRows, is_partition}
use Rattle.base.specs.Pages.{PageRun, covers}
use Rattle.base.specs.Refusals.{first_refusal}
use Rattle.base.specs.State.{State, start, common_home}
use Rattle.base.specs.Transactions.{Gift, Donation, gift}
use Rattle.wire.specs.declared.request.Request.{Request}
use Rattle.wire.specs.declared.request.Request.TheVariants.{Version, Features, RxRelease, RxtxMap, RxtxUnmap, IdGet, Send, Retrieve, Relinquish, Reclaim}
use Rattle.wire.specs.Requests.{request_of}
use Rattle.rules.specs.Call.{CallWords}
use Rattle.rules.specs.Calls.Version.{with_version}
use Rattle.rules.specs.Calls.Buffers.{with_pair, with_rx_released}
use Rattle.rules.specs.Calls.Send.{sent, opened, with_transaction}
use Rattle.rules.specs.Calls.Reclaim.{ended}
use Rattle.rules.specs.Calls.Retrieve.{Retrieval, retrieval_of, with_retrieval_of_kind, with_donation, with_rx_filled, after_retrieve}
use Rattle.rules.specs.Receivers.{with_retrieval_by}
use Rattle.rules.specs.Rule.{refused, all_tests, next_of}
use Rattle.rules.specs.Run.{rule_of, rule, refusal, step, state_from}
use Rattle.rules.specs.Laws.History.{Completed, completed_as, completed_with, completed_by, completed, completed_from, last_given, IsOwnedAsGiven}
use Rattle.rules.proofs.Given.{owner_after, home_after}

-- what a donation makes of something that is read off manifest and donations
abbrev Gives : {X : Type 0} → (ManifestRows → List Donation → X) → (Gift → X) → ℕ → Type 0
Gives F of n = (m : ManifestRows) (runs : List PageRun) (g : Gift) (ds : List Donation) → F m (with_donation_of m runs g ds) ≡ cond (covers runs n) (of g) (F m ds)

module _ {X : Type 0} (F : ManifestRows → List Donation → X) (of : Gift → X) (n : ℕ) (gives : Gives F of n) where
  read : State → X
  read s = F s.manifest s.donations

  -- where a donation is completed, if it is
  after : X → Option Completed → X
  after x d = option_map_or (λ (e : Completed). cond (covers e.ranges n) (of e.gift) x) d x

  -- ---- one call

  opened_keeps : (s : State) (p : ℕ) (kind : Kind) (v : descriptor.Send) (o : Option Access) → read (option_map_or (λ a. with_transaction s (opened s p kind v a)) o s) ≡ read s
  unfolding read with_transaction
  opened_keeps s p kind v (Some a) = refl
  opened_keeps s p kind v None = refl

  of_kind : (k : Kind) (s : State) (p : ℕ) (r : Retrieval) → read (with_rx_filled (with_retrieval_of_kind k s p r.transaction r.access) p) ≡ after (read s) (completed_as k p r)
  unfolding read after with_rx_filled with_retrieval_by with_donation
  of_kind Share s p r = refl
  of_kind Lend s p r = refl
  of_kind Donate s p r = gives s.manifest r.transaction.ranges (gift p r.access) s.donations

  retrieved : (s : State) (p : ℕ) (o : Option Retrieval) → read (option_map_or (after_retrieve s p) o s) ≡ after (read s) (option_and_then (completed_with p) o)
  unfolding after
  retrieved s p None = refl
  retrieved s p (Some r) = of_kind r.transaction.kind s p r

  of_request : (s : State) (c : CallWords) (r : Request) → read (rule_of s c r).next ≡ after (read s) (completed_by s c r)
  unfolding read after with_version with_pair with_rx_released with_retrieval_by ended
  of_request s c (Version word) = refl
  of_request s c (Features identifier) = refl
  of_request s c RxRelease = refl
  of_request s c (RxtxMap tx rx count) = refl
  of_request s c (RxtxUnmap word) = refl
  of_request s c IdGet = refl
  of_request s c (Send kind t) = opened_keeps s c.caller kind (sent s c t) (common_home s c.caller (sent s c t).ranges)
  of_request s c (Retrieve t) = retrieved s c.caller (retrieval_of s c t)
  of_request s c Relinquish = refl
  of_request s c (Reclaim handle flags) = refl

  of_rule : (s : State) (c : CallWords) (known : Bool) (o : Option Request) → let r = cond known (option_map_or (rule_of s c) o (refused NotSupported s)) (refused Denied s) in
      read (next_of s r) ≡ after (read s) (option_map_or (λ (status : Status). None) (first_refusal (all_tests s r)) (option_and_then (completed_by s c) o))
  unfolding after
  of_rule s c false o = refl
  of_rule s c true None = refl
  of_rule s c true (Some r) =
      elim (first_refusal (all_tests s (rule_of s c r))) as (λ t. read (option_map_or (λ (status : Status). s) t (rule_of s c r).next) ≡ after (read s) (option_map_or (λ (status : Status). None) t (completed_by s c r))) [
        | None ↦ of_request s c r
        | Some status ↦ refl
      ]

  of_step : (s : State) (c : CallWords) → read (step s c) ≡ after (read s) (completed s c)
  unfolding step rule refusal completed
  of_step s c = of_rule s c (is_partition s.manifest c.caller) (request_of c.regs)

  -- ---- a run

  last_more : (d : Completed) (o : Option Gift) (x : X) → option_map_or of (option_map_or (λ (g : Gift). Some g) o (cond (covers d.ranges n) (Some d.gift) None)) x ≡ option_map_or of o (cond (covers d.ranges n) (of d.gift) x)
  last_more d (Some g) x = refl
  last_more d None x = elim (covers d.ranges n) as (λ b. option_map_or of (cond b (Some d.gift) None) x ≡ cond b (of d.gift) x) [ true ↦ refl | false ↦ refl ]

  first_then : (o : Option Completed) (rest : List Completed) (x : X) → option_map_or of (last_given rest n) (after x o) ≡ option_map_or of (last_given (option_map_or (λ (d : Completed). d ∷ rest) o rest) n) x
  unfolding after
  first_then None rest x = refl
  first_then (Some d) rest x = sym (last_more d (last_given rest n) x)

  pub of_run : (s : State) (cs : List CallWords) → F (state_from s cs).manifest (state_from s cs).donations ≡ option_map_or of (last_given (completed_from s cs) n) (F s.manifest s.donations)
  unfolding read
  of_run s [] = refl
  of_run s (c ∷ cs) =
      of_run (step s c) cs
      ∙ ap (λ (x : X). option_map_or of (last_given (completed_from (step s c) cs) n) x) (of_step s c)
      ∙ first_then (completed s c) (completed_from (step s c) cs) (F s.manifest s.donations)

pub owned_as_given : (m : ManifestRows) (calls : List CallWords) (n : ℕ) → IsOwnedAsGiven m calls n
owned_as_given m calls n = record {
  owner = of_run (λ (k : ManifestRows) (ds : List Donation). owner k ds n) (λ (g : Gift). Some g.taker) n (λ k runs g ds. owner_after k runs g ds n) (start m) calls;
  home = of_run (λ (k : ManifestRows) (ds : List Donation). home k ds n) (λ (g : Gift). Some g.access) n (λ k runs g ds. home_after k runs g ds n) (start m) calls;
}
