use Rattle.std.proofs.Common.{◌≤◌, ◌<◌, drop}
use Rattle.base.specs.Alike.{IsAlikeUntil}
use Rattle.base.specs.Buffers.{is_buffer}
use Rattle.mailbox.proofs.pairs.buffers_until.Given as goal

-- where the mailboxes that are left leave pages alike, all do
abbrev pub invariant-loop-mailbox : goal.invariant-loop-mailbox
invariant-loop-mailbox l = record {
  behind : l.page < l.until;
  inside : l.until ≤ l.limit;
  done : (end : _) → IsAlikeUntil (is_buffer (drop l.mailbox-index l.mailboxes)) l.page l.until end → IsAlikeUntil (is_buffer l.mailboxes) l.page l.limit end;
}
