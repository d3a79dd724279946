-- No call changes the manifest.
use Rattle.std.proofs.Common.{◌≡◌, Option, Some, None, refl}
use Rattle.std.specs.Option.{option_map_or}
use Rattle.base.specs.declared.transaction.Kind.{Kind}
use Rattle.base.specs.declared.transaction.Kind.TheVariants.{Share, Lend, Donate}
use Rattle.base.specs.Transactions.{Live}
use Rattle.base.specs.Access.{Access}
use Rattle.base.specs.Descriptors.Send as descriptor
use Rattle.base.specs.State.{State, common_home}
use Rattle.wire.specs.declared.request.Request.{Request}
use Rattle.wire.specs.declared.request.Request.TheVariants.{Version, Features, RxRelease, RxtxMap, RxtxUnmap, IdGet, Send, Retrieve, Relinquish, Reclaim}
use Rattle.rules.specs.Call.{CallWords}
use Rattle.rules.specs.Calls.Version.{with_version}
use Rattle.rules.specs.Calls.Buffers.{with_pair, with_rx_released}
use Rattle.rules.specs.Calls.Send.{sent, opened, with_transaction}
use Rattle.rules.specs.Calls.Reclaim.{ended}
use Rattle.rules.specs.Calls.Retrieve.{Retrieval, retrieval_of, with_retrieval_of_kind, with_donation, with_rx_filled, after_retrieve}
use Rattle.rules.specs.Receivers.{with_retrieval_by}
use Rattle.rules.specs.Run.{rule_of}

opened_keeps : (s : State) (p : _) (kind : Kind) (v : descriptor.Send) (home : Option Access) → (option_map_or (λ a. with_transaction s (opened s p kind v a)) home s).manifest ≡ s.manifest
unfolding with_transaction
opened_keeps s p kind v (Some a) = refl
opened_keeps s p kind v None = refl

retrieved_keeps : (k : Kind) (s : State) (p : _) (t : Live) (access : Access) → (with_rx_filled (with_retrieval_of_kind k s p t access) p).manifest ≡ s.manifest
unfolding with_rx_filled with_retrieval_by with_donation
retrieved_keeps Share s p t access = refl
retrieved_keeps Lend s p t access = refl
retrieved_keeps Donate s p t access = refl

retrieval_keeps : (s : State) (p : _) (o : Option Retrieval) → (option_map_or (after_retrieve s p) o s).manifest ≡ s.manifest
retrieval_keeps s p None = refl
retrieval_keeps s p (Some r) = retrieved_keeps r.transaction.kind s p r.transaction r.access

pub manifest_stays : (s : State) (c : CallWords) (r : Request) → (rule_of s c r).next.manifest ≡ s.manifest
unfolding with_version with_pair with_rx_released with_retrieval_by ended
manifest_stays s c (Version word) = refl
manifest_stays s c (Features identifier) = refl
manifest_stays s c RxRelease = refl
manifest_stays s c (RxtxMap tx rx count) = refl
manifest_stays s c (RxtxUnmap word) = refl
manifest_stays s c IdGet = refl
manifest_stays s c (Send kind t) = opened_keeps s c.caller kind (sent s c t) (common_home s c.caller (sent s c t).ranges)
manifest_stays s c (Retrieve t) = retrieval_keeps s c.caller (retrieval_of s c t)
manifest_stays s c Relinquish = refl
manifest_stays s c (Reclaim handle flags) = refl
