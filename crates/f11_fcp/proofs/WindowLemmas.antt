-- Windows of accesses over calls on files.
use Rattle.std.proofs.Common.{◌≡◌, ℕ, ◌<◌, ◌==◌, ◌&&◌, Bool, true, false, List, [], ◌++◌, ◌-◌, length, Option, Some, None, Ok, refl}
use Rattle.std.proofs.Common.{sym, ◌∙◌, ap, subst, arith, append_assoc, append-nil, option_map, if◌then◌else◌}
use Rattle.std.proofs.lemmas.Bool.{and_from, and_parts, eq-eqb, eqb-true}
use Rattle.std.proofs.lemmas.List.{length-append}
use Rattle.std.proofs.lemmas.Option.{same_Some}
use Rattle.f11_chain.proofs.WindowLemmas.{empty-window, row-slice, slice-row, window-stays}
use Rattle.f11_chain.specs.FileHeaders.{file_blocks}
use Rattle.f11_chain.specs.Windows.{blocks_held, empty_window, IsWindowOf, LiesOn}
use Rattle.f11_chain.specs.declared.windows.Window.{Window}
use Rattle.f11_dev.specs.Image.{Image, IsImage}
use Rattle.f11_dev.specs.declared.device.Device.{Ghosts}
use Rattle.f11_home.specs.Home.{HomeFields}
use Rattle.f11_files.specs.index.Table.{table_of, last_sequence, IsFile, Table as IndexTable}
use Rattle.f11_store.specs.Accesses.{mark_of, with_accesses}
use Rattle.f11_store.specs.Causes.{is_missing}
use Rattle.f11_store.specs.Step.{Step}
use Rattle.f11_store.specs.Store.{Store, Access, is_held, is_same}
use Rattle.f11_store.specs.declared.callers.Uic.{Uic}
use Rattle.f11_store.specs.declared.files.FileId.{FileId}
use Rattle.f11_store.specs.declared.refusals.Refusal.{Refusal}
use Rattle.f11_store.specs.declared.refusals.Refusal.TheVariants.{DeviceFault, Damaged}
use Rattle.f11_store.specs.declared.requests.Reply.{Reply}
use Rattle.f11_store.specs.declared.requests.Request.{Request}
use Rattle.f11_store.proofs.FateLaws.{held-at}
use Rattle.f11_files.specs.volume.Sound.{HasSoundVolume}
use Rattle.f11_files.specs.Answers.{ReadsAtMost, WritesAtMost, is_clean, is_fatal}
use Rattle.f11_files.specs.Open.{disk_in, home_in, is_honest, store_in}
use Rattle.f11_files.specs.Rows.{KeepsRows, no_number, this_number}
use Rattle.f11_files.specs.declared.files.Files.{Files}
use Rattle.f11_files.proofs.Finding.Windows.{is-there}
use Rattle.f11_files.proofs.Opening.Kept.{accepted-opened}
use Rattle.f11_files.specs.image_store.Allocation.{BeginsWith}
use Rattle.f11_files.specs.image_store.StoreOf.{store_of}
use Rattle.f11_fcp.specs.Accesses.{Entry, HasAccessed, AccessTable, access_of, accesses, any_mode, emptied_if, held_in, is_held_in}
use Rattle.f11_fcp.specs.Accesses.{mark_kept, mark_there, marked_if, with_empty_windows, with_table_entry, with_marks, with_window}
use Rattle.f11_fcp.specs.Handles.{Handles, IsOpen, State, store_at}
use Rattle.f11_fcp.specs.Windows.{HasWindows, IsSliceOf, KeepsWindow, LeavesRows}
use Rattle.f11_fcp.proofs.AccessedLemmas.{there-held}

-- the volume of files that are open is sound
pub sound-in : {D : Type 0} {met : Ghosts D} (files : Files D met) → IsImage (disk_in files).image → is_honest files
    → HasSoundVolume (disk_in files).image (home_in files)
sound-in files image honest = accepted-opened (disk_in files).image (home_in files) image (files.accepted honest) (files.home honest)

-- an image has the rows that it has
pub rows-same : (home : HomeFields) (old new : Image) → new ≡ old → KeepsRows no_number home old new
rows-same home old new same =
    subst (λ (i : Image). KeepsRows no_number home old i) (sym same)
    record { there = λ f left file. file; rows = λ f left file. ([], sym (append-nil (file_blocks (table_of old home) f))) }

-- and one kept twice is kept
pub rows-then : {home : HomeFields} {old mid new : Image} → KeepsRows no_number home old mid → KeepsRows no_number home mid new
    → KeepsRows no_number home old new
rows-then {home} {old} {mid} {new} one two = record {
  there = λ f left file. two.there f left (one.there f left file);
  rows = λ f left file. go (file_blocks (table_of old home) f) (file_blocks (table_of mid home) f) (file_blocks (table_of new home) f)
      (one.rows f left file) (two.rows f left (one.there f left file));
}
  where
    go : (xs ys zs : List ℕ) → BeginsWith ys xs → BeginsWith zs ys → BeginsWith zs xs
    go xs ys zs (more, is) (behind, is') = (more ++ behind, is' ∙ ap (λ (l : List ℕ). l ++ behind) is ∙ append_assoc xs more behind)

-- a refusal that doesn't fail the volume leaves all
pub clean-of : (e : Refusal) → is_fatal e ≡ false → is_clean e ≡ true
clean-of DeviceFault h = absurd (cc)
clean-of Damaged h = absurd (cc)
clean-of _ h = refl

-- a window of a file is a slice of its blocks, and the other way round
pub as-slice : (t : IndexTable) (f : ℕ) (w : Window) → IsWindowOf t f w → IsSliceOf (file_blocks t f) w
as-slice t f w is = record {
  from = let sum = ap (λ (l : List ℕ). length l) is.whole_is in let parts = length-append is.before (blocks_held w ++ is.behind) in
      omega (arith, sum, parts, is.at_is);
  slice_is = row-slice (file_blocks t f) (blocks_held w) (w.first - 1) is;
}

pub as-window : (t : IndexTable) (f : ℕ) (w : Window) → IsSliceOf (file_blocks t f) w → IsWindowOf t f w
as-window t f w is = slice-row (file_blocks t f) (blocks_held w) (w.first - 1) is.from is.slice_is

-- a window is kept where its file has the blocks that it had, and perhaps more behind them
pub window-kept : {D : Type 0} {met : Ghosts D} (e : Entry) (old new : Files D met)
    → length (disk_in new).image ≡ length (disk_in old).image → (is_honest new → is_honest old)
    → (is_honest new → BeginsWith (file_blocks (table_of (disk_in new).image (home_in new)) e.file.number)
    (file_blocks (table_of (disk_in old).image (home_in old)) e.file.number))
    → KeepsWindow e old → KeepsWindow e new
window-kept e old new size back begins keeps = record {
  on = subst (λ (n : ℕ). LiesOn e.window n) (sym size) keeps.on;
  of_file = λ honest. as-slice _ _ _ (go (begins honest) (as-window _ _ _ (keeps.of_file (back honest))));
}
  where
    go : BeginsWith (file_blocks (table_of (disk_in new).image (home_in new)) e.file.number)
        (file_blocks (table_of (disk_in old).image (home_in old)) e.file.number)
        → IsWindowOf (table_of (disk_in old).image (home_in old)) e.file.number e.window
        → IsWindowOf (table_of (disk_in new).image (home_in new)) e.file.number e.window
    go (more, is) of =
        window-stays (table_of (disk_in old).image (home_in old)) (table_of (disk_in new).image (home_in new)) e.file.number e.window more
        is of

-- a row at the home block that is kept
pub begins-at : {D : Type 0} {met : Ghosts D} (old new : Files D met) (f : ℕ) → home_in new ≡ home_in old
    → BeginsWith (file_blocks (table_of (disk_in new).image (home_in old)) f) (file_blocks (table_of (disk_in old).image (home_in old)) f)
    → BeginsWith (file_blocks (table_of (disk_in new).image (home_in new)) f) (file_blocks (table_of (disk_in old).image (home_in old)) f)
begins-at old new f home begins =
    subst (λ (h : HomeFields). BeginsWith (file_blocks (table_of (disk_in new).image h) f)
    (file_blocks (table_of (disk_in old).image (home_in old)) f)) (sym home) begins

-- a file that is accessed is there
pub file-held : (t : AccessTable) (image : Image) (home : HomeFields) → HasAccessed t (store_of image home) → (task lun : ℕ) (e : Entry)
    → task < 8 → lun < 4 → t task lun ≡ Some e → IsFile (table_of image home) e.file.number
file-held t image home kept task lun e low small held =
    (is-there image home e.file (there-held t (store_of image home) task lun e kept low small held)).0

-- a window that holds no run is any file's
pub empty-kept : {D : Type 0} {met : Ghosts D} (e : Entry) (files : Files D met) → e.window ≡ empty_window → KeepsWindow e files
empty-kept e files is = record {
  on = subst (λ (w : Window). LiesOn w (length (disk_in files).image)) (sym is)
      record { few = omega arith; first = omega arith; within = λ k d low. absurd (omega (arith, low)) };
  of_file = λ _. as-slice _ _ _
      (subst (IsWindowOf (table_of (disk_in files).image (home_in files)) e.file.number) (sym is)
      (empty-window (table_of (disk_in files).image (home_in files)) e.file.number));
}

-- those of all accesses are kept
pub windows-kept : {D : Type 0} {met : Ghosts D} (t : AccessTable) (old new : Files D met)
    → length (disk_in new).image ≡ length (disk_in old).image → (is_honest new → is_honest old) → home_in new ≡ home_in old
    → (is_honest old → HasAccessed t (store_in old))
    → (is_honest new → KeepsRows no_number (home_in old) (disk_in old).image (disk_in new).image) → HasWindows t old → HasWindows t new
windows-kept t old new size back home kept rows has task lun e low small held =
    window-kept e old new size back
    (λ honest. begins-at old new e.file.number home
    ((rows honest).rows e.file.number refl
    (file-held t (disk_in old).image (home_in old) (kept (back honest)) task lun e low small held)))
    (has task lun e low small held)

-- so by a call that wrote
pub windows-on : {D : Type 0} {met : Ghosts D} {P : Image → Type 0} {most faults : ℕ} (t : AccessTable) (old new : Files D met)
    → IsOpen t old → WritesAtMost P most (disk_in old) (disk_in new) faults → home_in new ≡ home_in old
    → LeavesRows old new → HasWindows t new
windows-on t old new is writes home rows =
    windows-kept t old new writes.went.size (λ honest. sym writes.went.honest ∙ honest) home is.kept
    (λ honest. rows (sym writes.went.honest ∙ honest)) is.windows

-- and by one that read
pub windows-read : {D : Type 0} {met : Ghosts D} {most faults : ℕ} (t : AccessTable) (old new : Files D met) → IsOpen t old
    → ReadsAtMost most (disk_in old) (disk_in new) faults → home_in new ≡ home_in old → HasWindows t new
windows-read t old new is reads home =
    windows-kept t old new (ap (λ (i : Image). length i) reads.looked.image) (λ honest. sym reads.looked.honest ∙ honest) home is.kept
    (λ _. rows-same (home_in old) (disk_in old).image (disk_in new).image reads.looked.image) is.windows

-- two identifications of files that are there with one number are the same
same-file : (image : Image) (home : HomeFields) (a b : FileId) → is_missing (store_of image home) a ≡ false
    → is_missing (store_of image home) b ≡ false → a.number ≡ b.number → is_same a b ≡ true
same-file image home a b there there' number =
    and_from (a.number == b.number) (a.sequence == b.sequence) (eq-eqb a.number b.number number)
    (eq-eqb a.sequence b.sequence (sym (is-there image home a there).1 ∙ ap (last_sequence (table_of image home)) number
    ∙ (is-there image home b there').1))

-- so one that isn't the same has another number
apart : (image : Image) (home : HomeFields) (a b : FileId) → is_missing (store_of image home) a ≡ false
    → is_missing (store_of image home) b ≡ false → is_same a b ≡ false → this_number b.number a.number ≡ false
apart image home a b there there' other = go (a.number == b.number) refl
  where
    go : (n : Bool) → (a.number == b.number) ≡ n → (a.number == b.number) ≡ false
    go true is = absurd (let no : false ≡ true = sym other ∙ same-file image home a b there there' (eqb-true a.number b.number is) in cc)
    go false is = is

-- an access to a file, if nobody has one to it, is to another
other-file : (t : AccessTable) (s : Store) (f : FileId) → is_held_in any_mode t f ≡ false → (task lun : ℕ) (e : Entry) → task < 8 → lun < 4
    → t task lun ≡ Some e → is_same e.file f ≡ false
unfolding is_held_in is_held
other-file t s f nobody task lun e low small held = go (is_same e.file f) refl
  where
    go : (b : Bool) → is_same e.file f ≡ b → is_same e.file f ≡ false
    go true is =
        absurd (let no : false ≡ true = sym nobody ∙ held-at (λ _. true) (held_in t s) task lun (access_of e) f low small
        (ap (option_map access_of) held) is refl in cc)
    go false is = is

-- a file's blocks were cut, or it went: windows of accesses to others are kept
module _ {D : Type 0} {met : Ghosts D} (t : AccessTable) (old new : Files D met) (f : FileId)
    (size : length (disk_in new).image ≡ length (disk_in old).image) (back : is_honest new → is_honest old)
    (home : home_in new ≡ home_in old)
    (kept : is_honest old → HasAccessed t (store_in old)) (there : is_honest old → is_missing (store_in old) f ≡ false)
    (rows : is_honest old → KeepsRows (this_number f.number) (home_in old) (disk_in old).image (disk_in new).image)
  where
    other-kept : (task lun : ℕ) (e : Entry) → task < 8 → lun < 4 → t task lun ≡ Some e → is_same e.file f ≡ false → KeepsWindow e old
        → KeepsWindow e new
    other-kept task lun e low small held other keeps =
        window-kept e old new size back
        (λ honest.
        let was = back honest in
        begins-at old new e.file.number home
        ((rows was).rows e.file.number
        (apart (disk_in old).image (home_in old) e.file f (there-held t (store_in old) task lun e (kept was) low small held) (there was)
        other)
        (file-held t (disk_in old).image (home_in old) (kept was) task lun e low small held))) keeps

    pub windows-without : is_held_in any_mode t f ≡ false → HasWindows t old → HasWindows t new
    windows-without nobody has task lun e low small held =
        other-kept task lun e low small held (other-file t (store_in old) f nobody task lun e low small held)
        (has task lun e low small held)

    -- those of the file hold no run
    pub windows-cut : HasWindows t old → HasWindows (with_empty_windows f t) new
    windows-cut has task lun e low small held = by_entry (t task lun) refl held
      where
        by_test : (was : Entry) → t task lun ≡ Some was → (b : Bool) → is_same was.file f ≡ b
            → (if b then with_window empty_window was else was) ≡ e → KeepsWindow e new
        by_test was is true same to = subst (λ (x : Entry). KeepsWindow x new) to (empty-kept (with_window empty_window was) new refl)
        by_test was is false other to =
            subst (λ (x : Entry). KeepsWindow x new) to (other-kept task lun was low small is other (has task lun was low small is))

        by_entry : (o : Option Entry) → t task lun ≡ o → option_map (emptied_if f) o ≡ Some e → KeepsWindow e new
        by_entry None is none = absurd (cc)
        by_entry (Some was) is some = by_test was is (is_same was.file f) refl (same_Some _ _ some)

-- a table with another entry
pub windows-with : {D : Type 0} {met : Ghosts D} (t t' : AccessTable) (files : Files D met) (k l : ℕ) (o : Option Entry)
    → t' ≡ with_table_entry t k l o → ((e : Entry) → o ≡ Some e → KeepsWindow e files) → HasWindows t files
    → HasWindows t' files
windows-with t t' files k l o is new has task lun e low small held = go ((task == k) && (lun == l)) refl
  where
    held' : with_table_entry t k l o task lun ≡ Some e
    held' = ap (λ (u : AccessTable). u task lun) (sym is) ∙ held

    go : (b : Bool) → ((task == k) && (lun == l)) ≡ b → KeepsWindow e files
    go true here = new e (sym (ap (λ (b : Bool). if b then o else t task lun) here) ∙ held')
    go false other = has task lun e low small (sym (ap (λ (b : Bool). if b then o else t task lun) other) ∙ held')

-- or with other marks
pub windows-marked : {D : Type 0} {met : Ghosts D} (t t' : AccessTable) (files : Files D met) (f : FileId) → t' ≡ with_marks f t
    → HasWindows t files → HasWindows t' files
windows-marked t t' files f is has task lun e low small held =
    by_entry (t task lun) refl (ap (λ (u : AccessTable). u task lun) (sym is) ∙ held)
  where
    by_test : (was : Entry) → KeepsWindow was files → (b : Bool) → (if b then record was { marked = true } else was) ≡ e
        → KeepsWindow e files
    by_test was keeps true to = subst (λ (x : Entry). KeepsWindow x files) to record { on = keeps.on; of_file = keeps.of_file }
    by_test was keeps false to = subst (λ (x : Entry). KeepsWindow x files) to keeps

    by_entry : (o : Option Entry) → t task lun ≡ o → option_map (marked_if f) o ≡ Some e → KeepsWindow e files
    by_entry None at none = absurd (cc)
    by_entry (Some was) at some = by_test was (has task lun was low small at) (is_same was.file f) (same_Some _ _ some)

at-place : (t : AccessTable) (task lun k l : ℕ) → ((task == k) && (lun == l)) ≡ true → t task lun ≡ t k l
at-place t task lun k l here =
    let parts = and_parts (task == k) (lun == l) here in ap (λ (n : ℕ). t n lun) (eqb-true task k parts.0)
    ∙ ap (λ (n : ℕ). t k n) (eqb-true lun l parts.1)

-- accesses are what they were where one has another window
pub accesses-with : (t : AccessTable) (k l : ℕ) (e : Entry) (w : Window) → t k l ≡ Some e
    → accesses (with_table_entry t k l (Some (with_window w e))) ≡ accesses t
accesses-with t k l e w held = λ i task lun. go task lun ((task == k) && (lun == l)) refl i
  where
    go : (task lun : ℕ) (b : Bool) → ((task == k) && (lun == l)) ≡ b
        → option_map access_of (if b then Some (with_window w e) else t task lun) ≡ option_map access_of (t task lun)
    go task lun true here = ap (option_map access_of) (sym (at-place t task lun k l here ∙ held))
    go task lun false other = refl

pub kept-with : (t : AccessTable) (s : Store) (k l : ℕ) (e : Entry) (w : Window) → t k l ≡ Some e → HasAccessed t s
    → HasAccessed (with_table_entry t k l (Some (with_window w e))) s
kept-with t s k l e w held kept task lun low small = go ((task == k) && (lun == l)) refl
  where
    go : (b : Bool) → ((task == k) && (lun == l)) ≡ b
        → mark_there s (if b then Some (with_window w e) else t task lun) ≡ mark_kept (if b then Some (with_window w e) else t task lun)
    go true here =
        let is : t task lun ≡ Some e = at-place t task lun k l here ∙ held in
        subst (λ (o : Option Entry). mark_there s o ≡ mark_kept o) is (kept task lun low small)
    go false other = kept task lun low small

-- or where those to a file have windows that hold no run
pub accesses-emptied : (f : FileId) (t : AccessTable) → accesses (with_empty_windows f t) ≡ accesses t
accesses-emptied f t = λ i task lun. go (t task lun) i
  where
    by_test : (e : Entry) (b : Bool) → Some (access_of (if b then with_window empty_window e else e)) ≡ Some (access_of e)
    by_test e true = refl
    by_test e false = refl

    go : (o : Option Entry) → option_map access_of (option_map (emptied_if f) o) ≡ option_map access_of o
    go None = refl
    go (Some e) = by_test e (is_same e.file f)

pub kept-emptied : (f : FileId) (t : AccessTable) (s : Store) → HasAccessed t s → HasAccessed (with_empty_windows f t) s
kept-emptied f t s kept task lun low small = go (t task lun) (kept task lun low small)
  where
    by_test : (e : Entry) (b : Bool) → mark_of s e.file ≡ Some e.marked
        → mark_of s (if b then with_window empty_window e else e).file ≡ Some ((if b then with_window empty_window e else e).marked)
    by_test e true h = h
    by_test e false h = h

    go : (o : Option Entry) → mark_there s o ≡ mark_kept o
        → mark_there s (option_map (emptied_if f) o) ≡ mark_kept (option_map (emptied_if f) o)
    go None h = refl
    go (Some e) h = by_test e (is_same e.file f) h

-- a request that was served is where the table that stands then has the same accesses
pub handled-on : {task : ℕ} {caller : Uic} {r : Request} {reply : Reply} {old new : State} {block block' : List ℕ} (t : AccessTable)
    → accesses t ≡ accesses new.table → Handles task caller r (Ok reply) old block new block'
    → Handles task caller r (Ok reply) old block (record new { table = t }) block'
handled-on {task} {caller} {r} {reply} {old} {new} {block} {block'} t same h = record {
  step = λ honest clean.
      subst (λ (a : ℕ → ℕ → Option Access). Step (store_at old) task caller r block (Ok reply)
      (with_accesses a (store_of new.disk.image new.home)) block') (sym same) (h.step honest clean);
  undamaged = h.undamaged;
  writes = h.writes;
  left = λ clean. absurd (cc);
  among = h.among;
  unfailed = h.unfailed;
  home = h.home;
}
