-- The refusals of files of the host, as those of copies (profile).
use Rattle.std.specs.Prelude.{Result, Ok, Err}
use Rattle.f11_flx.specs.declared.refusal.FlxRefusal.{FlxRefusal}
use Rattle.f11_flx.specs.declared.refusal.FlxRefusal.TheVariants as copy
use Rattle.f11_host.specs.declared.refusal.HostRefusal.{HostRefusal}
use Rattle.f11_host.specs.declared.refusal.HostRefusal.TheVariants.{Files, LineTooLong, Unread}

-- as a copy it is refused by the volume, or its source is unread, or has a line that is too long
abbrev pub as_copy : HostRefusal → FlxRefusal
as_copy (Files e) = copy.Files e
as_copy Unread = copy.Unread
as_copy LineTooLong = copy.LineTooLong

abbrev pub copy_result : {T : Type 0} → Result T HostRefusal → Result T FlxRefusal
copy_result (Ok x) = Ok x
copy_result (Err e) = Err (as_copy e)

-- and back
abbrev pub of_copy : FlxRefusal → HostRefusal
of_copy (copy.Files e) = Files e
of_copy (copy.Rt e) = Unread
of_copy copy.BadRecord = Unread
of_copy copy.LineTooLong = LineTooLong
of_copy copy.Unread = Unread
