-- Windows over a file's blocks, in the words of the store.
use Rattle.std.proofs.Common.{◌≡◌, ◌-◌, ◌<◌, ◌≤◌, ℕ, Bool, true, false, cond, IsTrue, List, length, Some, None, inl, inr, refl, sym, ap}
use Rattle.std.proofs.Common.{subst, ◌∙◌, ltb, arith}
use Rattle.std.specs.Prelude.{IfErr, OnOk, Result, Ok, Err}
use Rattle.std.proofs.lemmas.Bool.{cases_eq, le-ltb}
use Rattle.std.proofs.lemmas.List.{length-map}
use Rattle.std.proofs.lemmas.Option.{slice_get-get_or, slice_get_within}
use Rattle.std.specs.List.{slice_get}
use Rattle.f11_chain.proofs.WindowLemmas.{window-has, window-stands}
use Rattle.f11_chain.specs.Calls.{table}
use Rattle.f11_chain.specs.FileHeaders.{block_by_vbn, file_blocks}
use Rattle.f11_chain.specs.Windows.{blocks_held, FindsWindow, HoldsAt, HoldsBlock, IsWindowAt, IsWindowOf, ReadsIn}
use Rattle.f11_chain.specs.declared.windows.Window.{Window}
use Rattle.f11_dev.specs.Disk.{Disk, with_transfer}
use Rattle.f11_dev.specs.Image.{Image, IsImage}
use Rattle.f11_dev.proofs.LookedLemmas.{looked_failed_read, looked_none, looked_read}
use Rattle.f11_home.specs.Home.{HomeFields}
use Rattle.f11_index.specs.Table.{Table, table_of, IsFile, last_sequence}
use Rattle.f11_index.proofs.SegmentLemmas.{table-bytes}
use Rattle.f11_store.specs.Causes.{first_of, is_missing}
use Rattle.f11_store.specs.File.{length_of}
use Rattle.f11_store.specs.Store.{file_named}
use Rattle.f11_store.specs.declared.files.FileId.{FileId}
use Rattle.f11_store.specs.declared.refusals.Refusal.{Refusal}
use Rattle.f11_store.specs.declared.refusals.Refusal.TheVariants.{DeviceFault, EndOfFile, NoSuchFile}
use Rattle.f11_volume.proofs.FileLemmas.{file-blocks-are, image-files}
use Rattle.f11_writes.specs.Kept.{file_in}
use Rattle.f11_image_store.proofs.StoreLemmas.{first-is-tested, seen-own}
use Rattle.f11_image_store.specs.StoreOf.{is_first, store_of}
use Rattle.f11_files.specs.Finding.Blocks.{FindsBlock}
use Rattle.f11_files.specs.Finding.First.{IsFileOf}
use Rattle.f11_files.specs.Finding.Windows.{FailsToReadBy, FindsFileWindow, HasWindow, IsWindowOn, ReadsBy}
use Rattle.f11_files.specs.Open.{IsIdFrom}
use Rattle.f11_files.specs.Operations.{length_causes}
use Rattle.f11_files.specs.Structure.{home_of, index_in, store_on, IsStructureFor}
use Rattle.f11_files.specs.declared.structure.Structure.{Structure}
use Rattle.f11_files.proofs.AnswerLemmas.{reads-looked, reads-within}
use Rattle.f11_files.proofs.Finding.First.{table-of}
use Rattle.f11_files.proofs.Finding.Locate.{block-read, reads-headers}
use Rattle.f11_files.proofs.Opening.Kept.{looked-for}
use Rattle.f11_files.proofs.Finding.Named.{found-named, named-is, not-named}

-- a file that the store has is there
pub is-there : (image : Image) (home : HomeFields) (f : FileId) → is_missing (store_of image home) f ≡ false
    → IsFile (table_of image home) f.number × (last_sequence (table_of image home) f.number ≡ f.sequence)
is-there image home f there = go (is_first t f.number) refl
  where
    t : Table
    t = table_of image home

    Missing : Type 0
    Missing = is_missing (store_of image home) f ≡ true

    never : {T : Type 0} → Missing → T
    never missing = let no : true ≡ false = sym missing ∙ there in absurd cc

    go : (b : Bool) → is_first t f.number ≡ b → IsFile t f.number × (last_sequence t f.number ≡ f.sequence)
    go true is =
        let file = (first-is-tested t f.number).0 is in
        elim (cases_eq (last_sequence t f.number) f.sequence) [
          | inl same ↦ (file, same)
          | inr other ↦ never (not-named image home f (λ both. other both.1))
        ]
    go false is =
        never (not-named image home f (λ both. let no : true ≡ false = sym ((first-is-tested t f.number).1 both.0) ∙ is in absurd cc))

-- a block that stands in a window stands there in one place
pub held-somewhere : (w : Window) (vbn : ℕ) → HoldsBlock w vbn → (lbn : ℕ) × HoldsAt w vbn lbn
held-somewhere w vbn holds =
    (_, record { holds = holds; lbn_is = slice_get-get_or (blocks_held w) (vbn - w.first) 0 (omega (arith, holds.from, holds.before)) })

module _ (s : Structure) (f : FileId) (w : Window) (disk : Disk) (for : IsStructureFor s disk) (is : IsWindowOn (home_of s) f w disk)
    (some : 0 < w.first) (vbn lbn : ℕ) (held : HoldsAt w vbn lbn) where
  module _ (honest : IsTrue disk.honest) where
    abbrev t : Table
    t = table_of disk.image (home_of s)

    has : HasWindow (home_of s) f w disk.image
    has = is.has honest

    file : IsFile t f.number
    file = (is-there disk.image (home_of s) f has.there).0

    pub in-place : block_by_vbn t f.number vbn ≡ Some lbn
    in-place = window-has t f.number vbn lbn w has.window some held

    named : file_named (store_on s disk) f ≡ file_in (home_of s) f.number disk.image
    named =
        (named-is disk.image (home_of s) f file (is-there disk.image (home_of s) f has.there).1).1
        ∙ seen-own f.number (file_in (home_of s) f.number disk.image) is.id.number

    as-long : length_of (file_named (store_on s disk) f) ≡ length (file_blocks t f.number)
    as-long =
        ap length_of named
        ∙ ap (λ (bs : List (List ℕ)). length bs)
        (file-blocks-are disk.image t f.number ((image-files disk.image (home_of s) (for.sound honest)).each f.number file).whole)
        ∙ length-map (file_blocks t f.number) _

    long-enough : vbn ≤ length_of (file_named (store_on s disk) f)
    long-enough =
        let within : vbn - 1 < length (file_blocks t f.number) = slice_get_within _ _ lbn in-place in
        omega (arith, within, as-long, some, held.holds.from)

    pub no-cause : first_of (length_causes (store_on s disk) f vbn) ≡ None
    no-cause =
        ap (λ (b : Bool). cond b (Some NoSuchFile) (cond (ltb (length_of (file_named (store_on s disk) f)) vbn) (Some EndOfFile) None))
        has.there
        ∙ ap (λ (b : Bool). cond b (Some EndOfFile) None) (le-ltb (length_of (file_named (store_on s disk) f)) vbn long-enough)

  -- the block of a window is found without a transfer
  pub finds-in-window : lbn < length disk.image → FindsBlock (home_of s) f vbn lbn disk disk
  finds-in-window within = record {
    no_cause = no-cause;
    named = named;
    file = file;
    block_is = in-place;
    within = within;
    reads = record { reads = 0; looked = looked_none disk; few = λ _. omega arith };
  }

-- the block was read there
pub reads-by : (s : Structure) (w : Window) (vbn lbn : ℕ) (block : List ℕ) (old new : Disk) → IsStructureFor s old → 0 < w.first
    → HoldsAt w vbn lbn → lbn < length old.image → new ≡ with_transfer true old
    → (IsTrue old.honest → slice_get old.image lbn ≡ Some block) → ReadsBy (home_of s) w vbn block old new
reads-by s w vbn lbn block old new for some held within once gives = record {
  once = once;
  of_file = λ f is.
      let finds = finds-in-window s f w old for is some vbn lbn held within in
      record {
        no_cause = finds.no_cause;
        block_is = λ honest. block-read s f vbn lbn block old old for finds refl (gives honest) honest;
        reads = reads-within (omega arith) (reads-looked (looked_read old new once));
      };
}

-- what the answer tells, one way or the other
module _ (s : Structure) (w : Window) (vbn : ℕ) (block : List ℕ) (old new : Disk) (for : IsStructureFor s old) where
  pub read-answered : (r : Result Unit Refusal) → 0 < w.first → ReadsIn w vbn r block old new
      → OnOk r (ReadsBy (home_of s) w vbn block old new)
  read-answered (Ok x) some is = reads-by s w vbn is.lbn block old new for some is.held is.within is.reads.counts is.reads.gives
  read-answered (Err e) some is = tt

  pub read-refused-by : (failed : Bool) (r : Result Unit Refusal) → IfErr r (λ e. e ≡ DeviceFault) → ReadsIn w vbn r block old new
      → IfErr r (λ e. FailsToReadBy failed e old new)
  read-refused-by failed (Ok x) fault is = fault
  read-refused-by failed (Err e) fault is = subst (λ (x : Refusal). FailsToReadBy failed x old new) (sym fault) record {
    why = record { only = inr refl; volume = λ no. absurd cc };
    looked = looked_failed_read old new is.reads.counts;
  }

  pub read-stays : (r : Result Unit Refusal) → ReadsIn w vbn r block old new → IsStructureFor s new
  read-stays (Ok x) is = looked-for s old new 1 0 for (looked_read old new is.reads.counts)
  read-stays (Err e) is = looked-for s old new 1 1 for (looked_failed_read old new is.reads.counts)

-- the window was found
module _ (s : Structure) (f : FileId) (old new : Disk) (for : IsStructureFor s old)
    (is : IsTrue old.honest → IsFileOf f (index_in s) old) (id : IsIdFrom 4 f) (vbn : ℕ) (w : Window)
    (image : IsImage old.image) (finds : FindsWindow (index_in s) f.number vbn w old new) where
  has-window : IsTrue old.honest → HasWindow (home_of s) f w old.image
  has-window honest =
      let window : IsWindowAt (table (index_in s) old) f.number vbn w = finds.window_is honest in
      record {
        there = (found-named s f old for honest (is honest)).0;
        window = subst (λ (t : Table). IsWindowOf t f.number w) (table-of s old for honest)
            (window-stands (table (index_in s) old) f.number vbn w window (table-bytes old.image (index_in s) image window.header));
      }

  window-on : IsWindowOn (home_of s) f w old
  window-on = record { id = id; has = has-window }

  pub finds-file-window : FindsFileWindow (home_of s) f vbn w old new
  finds-file-window = record {
    no_cause = λ honest.
        let there = held-somewhere w vbn finds.holds in
        no-cause s f w old for window-on finds.on.first vbn there.0 there.1 honest;
    window_is = λ honest. subst (λ (t : Table). IsWindowAt t f.number vbn w) (table-of s old for honest) (finds.window_is honest);
    has = has-window;
    holds = finds.holds;
    on = finds.on;
    reads = reads-headers s f old new 0 for is finds.looked;
  }
