-- The store of an image, a part after another.
use Rattle.std.proofs.Common.{◌≡◌, ◌+◌, ◌-◌, ◌≤◌, ◌<◌, ◌≢◌, ◌⊎◌, inl, inr, ℕ, Bool, true, false, cond, List, [], Option, Some, None}
use Rattle.std.proofs.Common.{option_map, refl, ap, sym, subst, ◌∙◌, length, eqb, arith}
use Rattle.std.proofs.lemmas.Bool.{and_from, and_parts, cases_eq, eq-eqb, eqb-true, lt-leb, ne_eqb}
use Rattle.f11_bits.specs.Bitmap.{Bitmap, count_below, is_free, free_blocks, Marks}
use Rattle.f11_bits.proofs.BitmapLemmas.{free_blocks-given, free_blocks-taken}
use Rattle.f11_dev.specs.Image.{Image}
use Rattle.f11_volume.specs.home.Home.{HomeFields}
use Rattle.f11_volume.specs.map.HeaderBlock.{segment_number}
use Rattle.f11_index.specs.Headers.{is_live}
use Rattle.f11_index.specs.Table.{Table, table_of, IsFile}
use Rattle.f11_index.proofs.NextLemmas.{live-tested}
use Rattle.f11_store.specs.Changes.{with_block, with_change}
use Rattle.f11_store.specs.File.{File}
use Rattle.f11_store.specs.Store.{Store}
use Rattle.f11_volume.specs.Contents.{file_of}
use Rattle.f11_volume.specs.Space.{storage_bitmap}
use Rattle.f11_volume.specs.Volume.{Volume, volume_of}
use Rattle.f11_writes.specs.Kept.{file_in, KeepsVolume, KeepsFiles, WritesBlock, KeepsButFree}
use Rattle.f11_image_store.specs.StoreOf.{is_first, as_seen, file_at, last_given, store_of}
use Rattle.f11_image_store.specs.StoreLaws.{FirstIsTested, UnusedIsEmpty}
use Rattle.f11_store.proofs.StoreLemmas.{same-store}

pub first-is-tested : FirstIsTested
unfolding is_first
first-is-tested t n = (
  λ is. let both = and_parts _ _ is in
      record { live = (live-tested t n).0 both.0; first = eqb-true (segment_number (t.header n)) 0 both.1 },
  λ file. and_from _ _ ((live-tested t n).1 file.live) (eq-eqb (segment_number (t.header n)) 0 file.first),
)

pub unused-is-empty : UnusedIsEmpty
unfolding store_of file_at is_first is_live
unused-is-empty image home n unused = rw unused refl

-- a file from 4 on is seen whole
pub seen-own : (n : ℕ) (f : File) → 4 ≤ n → as_seen n f ≡ f
seen-own n f own = ap (λ (b : Bool). cond b (record f { blocks = [] }) f) (lt-leb n 3 (omega (arith, own)))

-- file n as it is seen, where there is one
pub file-at : (image : Image) (t : Table) (n : ℕ) (f : Option File) → (IsFile t n → Some (as_seen n (file_of image t n)) ≡ f)
    → (¬ IsFile t n → None ≡ f) → file_at image t n ≡ f
unfolding file_at
file-at image t n f some none = go (is_first t n) refl
  where
    go : (b : Bool) → is_first t n ≡ b → cond b (Some (as_seen n (file_of image t n))) None ≡ f
    go true is = some ((first-is-tested t n).0 is)
    go false is = none (λ file. let no : true ≡ false = sym ((first-is-tested t n).1 file) ∙ is in absurd cc)

-- the same file of two images with one table
pub file-stays : (old new : Image) (t : Table) (n : ℕ) → (IsFile t n → as_seen n (file_of new t n) ≡ as_seen n (file_of old t n))
    → file_at new t n ≡ file_at old t n
file-stays old new t n same =
    file-at new t n (file_at old t n) (λ file. ap Some (same file) ∙ sym (file-at old t n _ (λ _. refl) (λ none. absurd (none file))))
    (λ none. sym (file-at old t n None (λ file. absurd (none file)) (λ _. refl)))

-- the number of free blocks, as the volume says it
pub free-count : (image : Image) (home : HomeFields)
    → free_blocks image (storage_bitmap image home) ≡ count_below (volume_of image home).free (volume_of image home).size
unfolding volume_of
free-count image home = refl

module _ (old new : Image) (home : HomeFields) where
  abbrev t : Table
  t = table_of old home

  -- where the headers and the places of the storage bitmap stay, the store changes in files and in the number of free blocks alone
  pub store-like : (s : Store) → table_of new home ≡ t → storage_bitmap new home ≡ storage_bitmap old home
      → ((n : ℕ) → file_at new t n ≡ s.file n) → free_blocks new (storage_bitmap old home) ≡ s.free
      → s ≡ record (store_of old home) { file = s.file; free = s.free } → store_of new home ≡ s
  unfolding store_of
  store-like s table bitmap files free is =
      same-store (store_of new home) (record (store_of old home) { file = s.file; free = s.free })
      (λ n. ap (λ (u : Table). file_at new u n) table ∙ files n)
      (ap (free_blocks new) bitmap ∙ free)
      (ap (λ (u : Table). u.slots) table) (λ n. ap (λ (u : Table). u.in_use n) table) (λ n. ap (λ (u : Table). last_given u n) table)
      refl (ap (λ (b : Bitmap). length b.places) bitmap) refl refl
      ∙ sym is

  -- the file that was there
  seen-same : (n : ℕ) → table_of new home ≡ t → file_in home n new ≡ file_in home n old
      → as_seen n (file_of new t n) ≡ as_seen n (file_of old t n)
  seen-same n table same = ap (as_seen n) (ap (λ (u : Table). file_of new u n) (sym table) ∙ same)

  count-stays : KeepsVolume home old new → free_blocks new (storage_bitmap old home) ≡ free_blocks old (storage_bitmap old home)
  count-stays keeps =
      ap (free_blocks new) (sym keeps.bitmap) ∙ free-count new home ∙ ap (λ (v : Volume). count_below v.free v.size) keeps.volume
      ∙ sym (free-count old home)

  pub stays : KeepsFiles home old new → store_of new home ≡ store_of old home
  unfolding store_of
  stays kept =
      store-like (store_of old home) kept.keeps.index_file.table kept.keeps.bitmap
      (λ n. file-stays old new t n (λ file. seen-same n kept.keeps.index_file.table (kept.files n file)))
      (count-stays kept.keeps) refl

  -- a block of file f was written
  pub block-stored : (f vbn : ℕ) (block : List ℕ) → 4 ≤ f → WritesBlock f vbn block home old new
      → store_of new home ≡ with_change (store_of old home) f (with_block vbn block)
  unfolding store_of
  block-stored f vbn block own wrote =
      store-like (with_change (store_of old home) f (with_block vbn block)) wrote.keeps.index_file.table wrote.keeps.bitmap
      (λ n. each n (cases_eq n f)) (count-stays wrote.keeps) refl
    where
      file : file_of new t f ≡ with_block vbn block (file_of old t f)
      file = ap (λ (u : Table). file_of new u f) (sym wrote.keeps.index_file.table) ∙ wrote.file

      written : file_at new t f ≡ option_map (with_block vbn block) (file_at old t f)
      written = file-at new t f _
          (λ is. ap Some (seen-own f (file_of new t f) own ∙ file ∙ ap (with_block vbn block) (sym (seen-own f (file_of old t f) own)))
          ∙ sym (ap (option_map (with_block vbn block)) (file-at old t f _ (λ _. refl) (λ none. absurd (none is)))))
          (λ none. sym (ap (option_map (with_block vbn block)) (file-at old t f None (λ is. absurd (none is)) (λ _. refl))))

      each : (n : ℕ) → (n ≡ f) ⊎ (n ≢ f)
          → file_at new t n ≡ cond (eqb n f) (option_map (with_block vbn block) (file_at old t f)) (file_at old t n)
      each n (inl same) =
          ap (λ (k : ℕ). file_at new t k) same ∙ written
          ∙ ap (λ (b : Bool). cond b (option_map (with_block vbn block) (file_at old t f)) (file_at old t n)) (sym (eq-eqb n f same))
      each n (inr other) =
          file-stays old new t n (λ file. seen-same n wrote.keeps.index_file.table (wrote.others n file other))
          ∙ ap (λ (b : Bool). cond b (option_map (with_block vbn block) (file_at old t f)) (file_at old t n)) (sym (ne_eqb n f other))

  -- blocks were marked
  pub marks-counted : (n : ℕ) → KeepsButFree home old new → free_blocks new (storage_bitmap old home) ≡ n
      → store_of new home ≡ record (store_of old home) { free = n }
  unfolding store_of
  marks-counted n kept count =
      store-like (record (store_of old home) { free = n }) kept.index_file.table kept.bitmap
      (λ f. file-stays old new t f (λ file. each f file (cases_eq f 2))) count refl
    where
      each : (f : ℕ) → IsFile t f → (f ≡ 2) ⊎ (f ≢ 2) → as_seen f (file_of new t f) ≡ as_seen f (file_of old t f)
      each f file (inl same) =
          let there : as_seen 2 (file_of new t 2) ≡ as_seen 2 (file_of old t 2) = ap (λ (u : Table). as_seen 2 (file_of new u 2))
          (sym kept.index_file.table) ∙ kept.said in
          subst (λ (k : ℕ). as_seen k (file_of new t k) ≡ as_seen k (file_of old t k)) (sym same) there
      each f file (inr other) = seen-same f kept.index_file.table (kept.files f file other)

  pub fewer-free : (lbn count : ℕ) → KeepsButFree home old new → Marks false (storage_bitmap old home) lbn count old new
      → lbn + count ≤ (storage_bitmap old home).size
      → ((k : ℕ) → lbn ≤ k → k < lbn + count → is_free old (storage_bitmap old home) k ≡ true)
      → store_of new home ≡ record (store_of old home) { free = (store_of old home).free - count }
  unfolding store_of
  fewer-free lbn count kept marks within free =
      let taken = free_blocks-taken (storage_bitmap old home) lbn count old new within marks free in
      marks-counted (free_blocks old (storage_bitmap old home) - count) kept (omega (arith, taken))

  pub more-free : (lbn count : ℕ) → KeepsButFree home old new → Marks true (storage_bitmap old home) lbn count old new
      → lbn + count ≤ (storage_bitmap old home).size
      → ((k : ℕ) → lbn ≤ k → k < lbn + count → is_free old (storage_bitmap old home) k ≡ false)
      → store_of new home ≡ record (store_of old home) { free = (store_of old home).free + count }
  unfolding store_of
  more-free lbn count kept marks within used =
      marks-counted (free_blocks old (storage_bitmap old home) + count) kept
      (free_blocks-given (storage_bitmap old home) lbn count old new within marks used)
