-- The names of the refusals of copies (profile).
use Rattle.std.specs.Prelude.{ℕ, Bool, false, List, codes}
use Rattle.f11_store.specs.Refusal.{refusal_name as files_refusal_name}
use Rattle.f11_fcp.specs.files.Answers.{is_fatal}
use Rattle.rt11_volume.specs.Files.{is_fault}
use Rattle.rt11_volume.specs.Refusal.{refusal_name as rt_refusal_name}
use Rattle.f11_flx.specs.declared.refusal.FlxRefusal.{FlxRefusal}
use Rattle.f11_flx.specs.declared.refusal.FlxRefusal.TheVariants.{Files, Rt, BadRecord, LineTooLong, Unread}

-- that of the volume where it is one's
abbrev pub flx_refusal_name : FlxRefusal → List ℕ
flx_refusal_name (Files e) = files_refusal_name e
flx_refusal_name (Rt e) = rt_refusal_name e
flx_refusal_name BadRecord = codes "BadRecord"
flx_refusal_name LineTooLong = codes "LineTooLong"
flx_refusal_name Unread = codes "Unread"

-- a device fault or Damaged, after which no transfer follows
abbrev pub is_lethal : FlxRefusal → Bool
is_lethal (Files e) = is_fatal e
is_lethal (Rt e) = is_fault e
is_lethal BadRecord = false
is_lethal LineTooLong = false
is_lethal Unread = false
