-- How users' codes and identifications are written (profile).
use Rattle.std.specs.Prelude.{ℕ, ◌==◌, false, List, [], ◌++◌, codes, if◌then◌else◌}
use Rattle.std.specs.Fmt.{decimal, digits}
use Rattle.f11_store.specs.declared.callers.Uic.{Uic}
use Rattle.f11_store.specs.declared.files.FileId.{FileId}

-- a number in octal, without leading zeros; 0 is `0`
abbrev pub octal_digits : ℕ → List ℕ
octal_digits n = digits 8 false n

-- a user's code: its group and its member, in octal
abbrev pub uic_text : Uic → List ℕ
uic_text uic = codes "[" ++ (octal_digits uic.group ++ (codes "," ++ (octal_digits uic.member ++ codes "]")))

-- a relative volume is written where it isn't 0
abbrev pub volume_text : ℕ → List ℕ
volume_text volume = if volume == 0 then [] else (codes "," ++ decimal volume)

-- an identification: its number, its sequence number, and its relative volume
abbrev pub id_text : FileId → List ℕ
id_text id = decimal id.number ++ (codes "," ++ (decimal id.sequence ++ volume_text id.volume))
