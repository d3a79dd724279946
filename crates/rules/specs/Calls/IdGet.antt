-- FFA_ID_GET (FF-A 1.1, "FFA_ID_GET").
use Rattle.std.specs.Prelude.{[], None}
use Rattle.base.specs.State.{State}
use Rattle.wire.specs.Replies.{success}
use Rattle.rules.specs.Call.{CallWords}
use Rattle.rules.specs.Rule.{Rule}

-- the caller's identifier
abbrev pub id_get_rule : State → CallWords → Rule
id_get_rule s c = record { tests = []; edit = None; next = s; reply = success c.caller 0 }
