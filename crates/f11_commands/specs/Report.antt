-- What the verifier of Files-11 volumes says (profile: the codes and their texts).
use Rattle.std.specs.Prelude.{ℕ, ◌==◌, if◌then◌else◌, List, ◌++◌, codes}
use Rattle.std.specs.Fmt.{decimal}
use Rattle.f11_findings.specs.declared.finding.Finding.{Finding}

-- a text with a number in it
abbrev pub with_number : List ℕ → ℕ → List ℕ → List ℕ
with_number before n after = before ++ (decimal n ++ after)

-- a text with two
abbrev pub with_numbers : List ℕ → ℕ → List ℕ → ℕ → List ℕ → List ℕ
with_numbers before n between m after = before ++ (decimal n ++ (between ++ (decimal m ++ after)))

-- what a fault says, by its code
unfoldable pub fault_text : Finding → List ℕ
fault_text f =
    if f.code == 1 then codes "F1 no home block" else
    if f.code == 2 then codes "F2 index file misplaced" else
    if f.code == 3 then with_number (codes "F3 header ") f.a (codes " of the first four bad") else
    if f.code == 4 then codes "F4 storage bitmap file bad" else
    if f.code == 5 then codes "F5 control block wrong" else
    if f.code == 6 then with_number (codes "F6 index bit ") f.a (codes " past the slots") else
    if f.code == 7 then with_number (codes "F7 header ") f.a (codes " bad") else
    if f.code == 8 then with_numbers (codes "F8 header ") f.a (codes " pointer ") f.b (codes " outside the volume") else
    if f.code == 9 then with_number (codes "F9 block ") f.a (codes " named twice") else
    if f.code == 10 then with_number (codes "F10 block ") f.a (codes " named and free") else
    if f.code == 11 then with_number (codes "F11 header ") f.a (codes " links wrongly") else
    if f.code == 12 then with_number (codes "F12 header ") f.a (codes " linked twice") else
    if f.code == 13 then with_number (codes "F13 header ") f.a (codes " links past 256") else
    with_number (codes "F14 header ") f.a (codes " links to another volume")

-- what a note says, by its code
unfoldable pub note_text : Finding → List ℕ
note_text f =
    if f.code == 1 then with_numbers (codes "N1 blocks ") f.a (codes " to ") f.b (codes " lost") else
    if f.code == 2 then with_number (codes "N2 header ") f.a (codes " dead") else
    if f.code == 3 then with_number (codes "N3 header ") f.a (codes " orphan") else
    if f.code == 4 then with_number (codes "N4 file ") f.a (codes " marked for delete") else
    if f.code == 5 then with_number (codes "N5 file ") f.a (codes " improperly closed") else
    if f.code == 6 then with_number (codes "N6 file ") f.a (codes " in no directory") else
    if f.code == 7 then with_numbers (codes "N7 directory ") f.a (codes " record ") f.b (codes " names no file") else
    if f.code == 8 then with_numbers (codes "N8 directory ") f.a (codes " record ") f.b (codes " repeats a name") else
    if f.code == 9 then with_numbers (codes "N9 directory ") f.a (codes " record ") f.b (codes " has no name") else
    with_number (codes "N10 file ") f.a (codes " not contiguous")
