-- What the verifier of RT-11 volumes says (profile: the codes and their texts).
use Rattle.std.specs.Prelude.{ℕ, ◌==◌, if◌then◌else◌, List, ◌++◌, codes}
use Rattle.std.specs.Fmt.{decimal}
use Rattle.f11_findings.specs.declared.finding.Finding.{Finding}

-- a segment, as a line names it
abbrev pub segment_text : ℕ → List ℕ → List ℕ
segment_text a rest = codes " segment " ++ (decimal a ++ rest)

-- and an entry of one
abbrev pub entry_text : ℕ → ℕ → List ℕ → List ℕ
entry_text a b rest = segment_text a (codes " entry " ++ (decimal b ++ rest))

-- what a fault says, by its code
unfoldable pub rt_fault_text : Finding → List ℕ
rt_fault_text f =
    if f.code == 1 then codes "R1 directory size wrong" else
    if f.code == 2 then codes "R2" ++ segment_text f.a (codes " links outside") else
    if f.code == 3 then codes "R3" ++ segment_text f.a (codes " links back") else
    if f.code == 4 then codes "R4" ++ segment_text f.a (codes " extra bytes wrong") else
    if f.code == 5 then codes "R5" ++ segment_text f.a (codes " has no end") else
    if f.code == 6 then codes "R6" ++ entry_text f.a f.b (codes " status") else
    if f.code == 7 then codes "R7" ++ entry_text f.a f.b (codes " past the device") else
    if f.code == 8 then codes "R8" ++ segment_text f.a (codes " begins too early") else
    codes "R9 highest segment wrong"

-- what a note says, by its code
unfoldable pub rt_note_text : Finding → List ℕ
rt_note_text f =
    if f.code == 1 then codes "Q1" ++ entry_text f.a f.b (codes " tentative") else
    if f.code == 2 then codes "Q2" ++ entry_text f.a f.b (codes " has no name") else
    if f.code == 3 then codes "Q3" ++ entry_text f.a f.b (codes " repeats a name") else
    codes "Q4" ++ segment_text f.a (codes " begins late")
