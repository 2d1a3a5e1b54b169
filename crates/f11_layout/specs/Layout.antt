-- What a fresh volume is made with.
use Rattle.std.specs.Prelude.{◌≡◌, ℕ, List, take}
use Rattle.f11_layout.specs.declared.layout.Layout.{Layout}
use Rattle.f11_layout.specs.declared.params.InitParams.{InitParams}

-- the label that was asked for
abbrev pub label_of : InitParams → List ℕ
label_of p = p.label.now

-- the label of a layout
abbrev pub label_in : Layout → List ℕ
label_in l = take l.label_length l.label

-- a volume's layout, by what it was made with
pub record IsLayoutOf (p : InitParams) (blocks : ℕ) (l : Layout) : Type 0 where
  pub blocks_are : l.blocks ≡ blocks
  pub slots_are : l.slots ≡ p.slots
  pub files_are : l.max_files ≡ p.max_files
  pub label_is : label_in l ≡ label_of p
  pub owner_is : l.owner ≡ p.owner
  pub date_is : l.date ≡ p.date
