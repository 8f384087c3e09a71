-- The model's ops as a fleet takes or refuses them.
use Rattle.std.specs.Prelude.{ℕ, ◌<◌}
use Rattle.entry.specs.Text.{text_of}
use Rattle.replica.specs.declared.op.TakeFault.{TakeFault}
use Rattle.replica.specs.Op.{ActValue, Open as OpenBytes, Extend as ExtendBytes, Close as CloseIt, Seal as SealBytes}
use Rattle.replica.specs.Op.{Free as FreeIt}
use Rattle.replica.specs.Picture.{FleetState}
use Rattle.replica.specs.Registry.{Raises, RefusesRaise}
use Rattle.replica.specs.Take.{Takes, Refuses}
use Rattle.log_laws.specs.Ops.{LogOp, op_of}
use Rattle.log_laws.specs.Shown.{Act, Open, Extend, Close, Seal, Free, Op, On, Raise}
use Rattle.log_bytes.specs.Text.{bytes_for}

-- the act of the model, with its text as bytes
abbrev pub act_for : ℕ → ℕ → Act → ActValue
act_for master segment (Open text) = OpenBytes (bytes_for master segment text)
act_for master segment (Extend at more) = ExtendBytes at (text_of more)
act_for master segment Close = CloseIt
act_for master segment (Seal text) = SealBytes (bytes_for master segment text)
act_for master segment Free = FreeIt

-- the op in bytes that does this act to the replica that a backup holds of a segment
abbrev pub log_op_for : ℕ → ℕ → ℕ → Act → LogOp
log_op_for master b s act = record { backup = b; segment = s; act = act_for master s act }

-- the op names a backup that the fleet has, or the registry
abbrev pub IsOnFleet : FleetState → Op → Type 0
IsOnFleet f (On b s act) = b < f.backups
IsOnFleet f (Raise id) = Unit {0}

-- the fleet takes the master's op
abbrev pub TakesOp : ℕ → FleetState → Op → FleetState → Type 0
TakesOp master f (On b s act) g = Takes f b (op_of master (log_op_for master b s act)) g
TakesOp master f (Raise id) g = Raises f master id g

-- the fleet refuses the master's op; after a fault the op may have been taken or not
abbrev pub RefusesOp : ℕ → FleetState → Op → TakeFault → FleetState → Type 0
RefusesOp master f (On b s act) fault g = Refuses f b (op_of master (log_op_for master b s act)) fault g
RefusesOp master f (Raise id) fault g = RefusesRaise f master id fault g
