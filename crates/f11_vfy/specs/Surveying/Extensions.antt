-- The extension headers of a volume: those with a later part of a file's map (Files-11 On-Disk Structure Level 1, "File Header").
use Rattle.std.specs.Prelude.{◌≡◌, ◌≢◌, ℕ, zero, suc, ◌+◌, ◌==◌, ◌&&◌, true, not, IsTrue, List, [], ◌∷◌, ◌++◌, if◌then◌else◌}
use Rattle.f11_dev.specs.Disk.{Disk}
use Rattle.f11_map.specs.HeaderBlock.{segment_number}
use Rattle.f11_index.specs.Headers.{is_live}
use Rattle.f11_index.specs.IndexFile.{Index}
use Rattle.f11_index.specs.Table.{Table, table_in, IsLive}
use Rattle.f11_vfy.specs.declared.survey.extensions.Extensions.{Extensions}
use Rattle.f11_vfy.specs.declared.survey.slot.State.{State}
use Rattle.f11_vfy.specs.declared.survey.slot.State.TheVariants.{Unused, Dead, Bad, Live}

-- header n is an extension header: it is live, and its segment number isn't 0
pub record IsExtension (t : Table) (n : ℕ) : Type 0 where
  pub live : IsLive t n
  pub later : segment_number (t.header n) ≢ 0

-- the block of header n, where it is an extension header
unfoldable pub extension_of : Table → ℕ → List (List ℕ)
extension_of t n = if is_live t n && not (segment_number (t.header n) == 0) then t.header n ∷ [] else []

-- the blocks of those among headers 1 to n, in order
unfoldable pub extensions_to : Table → ℕ → List (List ℕ)
extensions_to t zero = []
extensions_to t (suc n) = extensions_to t n ++ extension_of t (n + 1)

-- the block, where a slot in this state has an extension header there
unfoldable pub extension_in : State → List ℕ → List (List ℕ)
extension_in Unused block = []
extension_in Dead block = []
extension_in Bad block = []
extension_in Live block = if segment_number block == 0 then [] else block ∷ []

-- these are the blocks of a table's extension headers, in order
abbrev pub HasExtensions : Table → Extensions → Type 0
HasExtensions t e = e.blocks.items ≡ extensions_to t t.slots

-- extension headers are to be kept, and there is none yet
pub record IsToKeep (e : Extensions) : Type 0 where
  pub wanted : e.wanted ≡ true
  pub none : e.blocks.items ≡ []

-- A slot in this state was taken, and its block too, where extension headers are kept and it has one.
pub record TakesExtension (state : State) (block : List ℕ) (old new : Extensions) : Type 0 where
  pub wanted : new.wanted ≡ old.wanted
  pub blocks : new.blocks.items ≡ (if old.wanted then old.blocks.items ++ extension_in state block else old.blocks.items)

-- Where extension headers are to be kept, those among a disk's headers 1 to n were kept.
abbrev pub KeepsTo : ℕ → Index → Disk → Extensions → Extensions → Type 0
KeepsTo n index disk old new =
    IsTrue disk.honest → IsToKeep old → new.blocks.items ≡ extensions_to (table_in disk.image index) n

-- All those were.
abbrev pub KeepsExtensions : Index → Disk → Extensions → Extensions → Type 0
KeepsExtensions index disk old new = IsTrue disk.honest → IsToKeep old → HasExtensions (table_in disk.image index) new
