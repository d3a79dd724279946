-- The manager that is held, where there is one.
use Rattle.std.proofs.Common.{◌≡◌, [], Option, Some, None, IsSome, refl}
use Rattle.base.specs.State.{start}
use Rattle.spm.specs.Machine.{Machine}

-- any manager, for where there is none
abbrev any : Machine
any = record {
  state = start (record { pool = 0; partitions = []; regions = [] });
  pool = record {
    memory = record { ids = []; quotas = []; words = []; taken = [] };
    operations = [];
    made = 0;
  };
}

abbrev pub held : Option Machine → Machine
held None = any
held (Some m) = m

pub held_is : (o : Option Machine) → IsSome o → o ≡ Some (held o)
held_is None e = absurd cc
held_is (Some m) e = refl
