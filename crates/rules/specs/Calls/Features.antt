-- FFA_FEATURES (FF-A 1.1, "FFA_FEATURES").
use Rattle.std.specs.Prelude.{ℕ, [], ◌∷◌, None}
use Rattle.base.specs.declared.status.Status.TheVariants.{NotSupported}
use Rattle.base.specs.Refusals.{◌otherwise◌}
use Rattle.base.specs.State.{State}
use Rattle.wire.specs.Functions.{is_feature}
use Rattle.wire.specs.Replies.{success}
use Rattle.rules.specs.Rule.{Rule}

-- the identifier is known, and has no further properties
abbrev pub features_rule : State → ℕ → Rule
features_rule s identifier =
    record {
      tests = (is_feature identifier otherwise NotSupported) ∷ [];
      edit = None;
      next = s;
      reply = success 0 0;
    }
