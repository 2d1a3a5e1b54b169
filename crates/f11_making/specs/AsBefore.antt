-- What stands where what was made is undone (profile).
use Rattle.std.specs.Prelude.{◌≡◌, ℕ, ◌+◌, ◌<◌, ◌≤◌, ◌==◌, true, false, Some}
use Rattle.f11_store.specs.File.{File, without_contiguous}
use Rattle.f11_store.specs.Store.{Store}

-- An index file grew by so many blocks in its last header: its contiguous mark is clear, and there are at most so many retrieval
-- pointers more, each in a place that was unused.
pub record IsGrownIndex (f g : File) (added : ℕ) : Type 0 where
  pub sequence : g.sequence ≡ f.sequence
  pub owner : g.owner ≡ f.owner
  pub protection : g.protection ≡ f.protection
  pub characteristics : g.characteristics ≡ without_contiguous f.characteristics
  pub ident : g.ident ≡ f.ident
  pub attr : g.attr ≡ f.attr
  pub held : g.held ≡ f.held
  pub no_fewer : f.pointers ≤ g.pointers
  pub no_more : g.pointers ≤ f.pointers + added
  pub places : g.pointers + g.room ≡ f.pointers + f.room
  pub blocks : g.blocks ≡ f.blocks

-- The index file after so many slots more: as it was where there are none.
pub data IndexAfter (s s' : Store) (added : ℕ) : Type 0 where
  as_it_was : added ≡ 0 → s'.file 1 ≡ s.file 1 → IndexAfter s s' added
  grown : 0 < added → (f g : File) → s.file 1 ≡ Some f → s'.file 1 ≡ Some g → IsGrownIndex f g added → IndexAfter s s' added

-- A store is as before, but for slots that the index file got first, and for the sequence numbers that free slots were last given.
pub record IsAsBefore (s s' : Store) : Type 0 where
  pub added : ℕ
  pub file : (n : ℕ) → (n == 1) ≡ false → s'.file n ≡ s.file n
  pub index : IndexAfter s s' added
  pub free : s'.free + added ≡ s.free
  pub slots : s'.slots ≡ s.slots + added
  pub in_use : (n : ℕ) → s'.in_use n ≡ s.in_use n
  pub last : (n : ℕ) → s.in_use n ≡ true → n ≤ s.slots → s'.last n ≡ s.last n
  pub access : (task lun : ℕ) → s'.access task lun ≡ s.access task lun
  pub bitmap_blocks : s'.bitmap_blocks ≡ s.bitmap_blocks
  pub index_bitmap_blocks : s'.index_bitmap_blocks ≡ s.index_bitmap_blocks
  pub limit : s'.limit ≡ s.limit
