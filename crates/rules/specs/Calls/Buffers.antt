-- The buffers of the caller (FF-A 1.1, "FFA_RXTX_MAP", "FFA_RXTX_UNMAP", "FFA_RX_RELEASE").
use Rattle.std.specs.Prelude.{ℕ, Bool, false, ◌&&◌, ◌==◌, List, [], ◌∷◌, ◌++◌, Option, Some, None}
use Rattle.std.specs.Option.{option_map_or}
use Rattle.base.specs.declared.status.Status.TheVariants.{InvalidParameters, Denied}
use Rattle.base.specs.Pages.{PageRun}
use Rattle.base.specs.Access.{is_rw}
use Rattle.base.specs.Refusals.{Test, ◌otherwise◌}
use Rattle.base.specs.Buffers as pairs
use Rattle.base.specs.State.{State, free_home, each_page}
use Rattle.wire.specs.Replies.{success}
use Rattle.rules.specs.Call.{CallWords}
use Rattle.rules.specs.Rule.{Rule}

-- ---- what the calls change

-- this is the partition's pair, or it has none
unfoldable pub with_pair : State → ℕ → Option pairs.Pair → State
with_pair s p pair = record s { mailboxes = pairs.with_pair p pair s.mailboxes }

-- the partition does not hold RX
unfoldable pub with_rx_released : State → ℕ → State
with_rx_released s p = record s { mailboxes = pairs.with_rx p false s.mailboxes }

-- ---- FFA_RXTX_MAP

-- the page is free for the partition, and its home is read-write
unfoldable pub may_be_buffer : State → ℕ → ℕ → Bool
may_be_buffer s p n = option_map_or (λ home. is_rw home.rights) (free_home s p n) false

abbrev pub may_be_buffers : State → ℕ → PageRun → Bool
may_be_buffers s p run = each_page (may_be_buffer s p) run.first run.count

abbrev pub map_tests : State → ℕ → ℕ → ℕ → ℕ → List Test
map_tests s p tx rx count =
    let pair = pairs.named_pair tx rx count in
    pairs.pair_tests s.mailboxes p tx rx count
    ++ (may_be_buffers s p pair.tx && may_be_buffers s p pair.rx otherwise Denied)
    ∷ []

-- of these addresses, and so many pages each
abbrev pub map_rule : State → CallWords → ℕ → ℕ → ℕ → Rule
map_rule s c tx rx count =
    record {
      tests = map_tests s c.caller tx rx count;
      edit = None;
      next = with_pair s c.caller (Some (pairs.named_pair tx rx count));
      reply = success 0 0;
    }

-- ---- FFA_RXTX_UNMAP

abbrev pub unmap_tests : State → ℕ → ℕ → List Test
unmap_tests s p word =
    (word == 0 otherwise InvalidParameters)
    ∷ pairs.unmap_tests s.mailboxes p

-- of this word in register 1
abbrev pub unmap_rule : State → CallWords → ℕ → Rule
unmap_rule s c word =
    record {
      tests = unmap_tests s c.caller word;
      edit = None;
      next = with_pair s c.caller None;
      reply = success 0 0;
    }

-- ---- FFA_RX_RELEASE

abbrev pub release_rule : State → CallWords → Rule
release_rule s c =
    record {
      tests = pairs.release_tests s.mailboxes c.caller;
      edit = None;
      next = with_rx_released s c.caller;
      reply = success 0 0;
    }
