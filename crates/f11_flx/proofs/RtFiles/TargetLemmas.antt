-- What the calls on an RT-11 volume tell of a file that is made.
use Rattle.std.proofs.Common.{◌≡◌, ◌≢◌, ℕ, ◌+◌, ◌<◌, ◌≤◌, Bool, true, false, if◌then◌else◌, List, [], ◌∷◌, length, slice_index_or, Result}
use Rattle.std.proofs.Common.{Ok, Err, OnOk, OnErr, IfErr, refl, sym, ◌∙◌, ap, subst, arith}
use Rattle.std.proofs.lemmas.Bool.{le-ltb}
use Rattle.std.specs.Prelude.{⊤}
use Rattle.std.proofs.lemmas.List.{length-map}
use Rattle.std.proofs.lemmas.List.FromFn.{length-range_with_len}
use Rattle.f11_dev.specs.Disk.{Disk}
use Rattle.f11_dev.specs.Image.{Image}
use Rattle.f11_dev.specs.Looked.{Looked}
use Rattle.f11_dev.specs.Went.{Went}
use Rattle.f11_dev.specs.declared.device.Device.{Ghosts}
use Rattle.f11_dev.proofs.WentLemmas.{went_looked, went_weaker, went_within}
use Rattle.rt11_volume.specs.Calls.{AnswersRt, has_failed}
use Rattle.rt11_volume.specs.Files.{CreatesFile, DeletesFile, FailsToCreate, FailsToDelete, FailsToReach, HasBlockWritten}
use Rattle.rt11_volume.specs.Files.{KeepsFiles}
use Rattle.rt11_volume.specs.Files.{faults_in, file_area}
use Rattle.rt11_volume.specs.Files.{is_device_fault, is_fault}
use Rattle.rt11_volume.specs.Named.{files_named}
use Rattle.rt11_volume.specs.Operations.{with_block, with_new_file}
use Rattle.rt11_volume.specs.RtName.{IsRtName}
use Rattle.rt11_volume.specs.Segment.{Segment}
use Rattle.rt11_volume.specs.Store.{Area, RtStore, area_at}
use Rattle.rt11_volume.specs.Verifying.Verdict.{IsSoundDisk}
use Rattle.rt11_volume.specs.declared.refusal.RtRefusal.{RtRefusal}
use Rattle.rt11_volume.specs.declared.refusal.RtRefusal.TheVariants as rt
use Rattle.rt11_volume.specs.declared.volume.RtAccepted.{RtAccepted}
use Rattle.rt11_volume.proofs.Named.Laws.{created-made, deleted-gone, written-replaced, file-first, no-file}
use Rattle.f11_flx.specs.CopyToRt.{FailsToMake, FailsToMakeIf, HasSameDirectory}
use Rattle.f11_flx.specs.Target.{DeletesRtFile, FailsDeleting, FailsMaking, FailsPutting, Fares, HasRtBlocks, KeepsFront, Makes, Puts}
use Rattle.f11_flx.specs.Target.{MakesTransfers, Refused}
use Rattle.f11_flx.specs.Target.{rt_disk, rt_store}
use Rattle.f11_flx.proofs.RtFiles.FrontLemmas.{block-front, files-front, front-went}

abbrev pub as-ok : {T : Type 0} → T → Result T RtRefusal
as-ok x = Ok x

abbrev pub as-err : {T : Type 0} → RtRefusal → Result T RtRefusal
as-err e = Err e

-- what is said of each image is left out
pub transfers : (P : Image → Type 0) {old new : Disk} {most faults : ℕ} → Went P old new most faults → MakesTransfers old new most faults
transfers P went = went_weaker P (λ image. ⊤) (λ image holds. tt) went

pub transfers-looked : {old new : Disk} {most faults : ℕ} → Looked old new most faults → MakesTransfers old new most faults
transfers-looked looked = went_looked (λ image. ⊤) looked

pub transfers-within : {a b : Disk} {m n faults : ℕ} → MakesTransfers a b m faults → m ≤ n → MakesTransfers a b n faults
transfers-within went fewer = went_within (λ image. ⊤) went fewer

-- an area has as many blocks as its entry says
pub area-length : (store : RtStore) (seg : Segment) (i : ℕ) → length (area_at store seg i).contents ≡ (area_at store seg i).length
unfolding area_at
area-length store seg i = simp (length-map, length-range_with_len)

-- a store that is the same has the same directory, and so has one with another block
same-directory : (t t' : RtStore) → t' ≡ t → HasSameDirectory t t'
same-directory t t' is = subst (λ (x : RtStore). x ≡ record t { block = x.block }) (sym is) refl

block-written : (t t' : RtStore) (lbn : ℕ) (block : List ℕ) → t' ≡ with_block t lbn block → HasSameDirectory t t'
unfolding with_block
block-written t t' lbn block is = subst (λ (x : RtStore). x ≡ record t { block = x.block }) (sym is) refl

module _ {E : Type 0} {met : Ghosts E} (disk : E → Disk) (old new : RtAccepted E met) where
  -- a disk that is sound stays so where its image is accepted
  pub fares-of : {T : Type 0} (P : Image → Type 0)
      → (IsSoundDisk (rt_disk disk old) → (image : Image) → P image → KeepsFront (rt_disk disk old).image image)
      → (most : ℕ) (result : Result T RtRefusal) → AnswersRt disk result old new →
      Went P (rt_disk disk old) (rt_disk disk new) most (faults_in result) → Fares disk (is_device_fault result) old new
  fares-of P keeps most result a w = record {
    failures = w.failures;
    quiet = λ fault. w.quiet (subst (λ b. 0 < (if b then 1 else 0)) (sym fault) (omega arith));
    honest = w.honest;
    next = a.next;
    front = λ s. front-went P (rt_disk disk old) (rt_disk disk new) (keeps s) w;
  }

  pub alive-of : {T : Type 0} (x : T) → AnswersRt disk (Ok x) old new → has_failed old ≡ false
  alive-of x a = by (has_failed old) refl
    where
      by : (b : Bool) → has_failed old ≡ b → b ≡ false
      by false is = refl
      by true is = let h : as-ok x ≡ as-err rt.Failed = a.failed.1 is in absurd (cc)

  pub unfailed-of : {T : Type 0} (e : RtRefusal) → AnswersRt {T = T} disk (Err e) old new → has_failed old ≡ false → e ≢ rt.Failed
  unfailed-of {T = T} e a alive is = let h : has_failed old ≡ true = a.failed.0 (ap (as-err {T = T}) is) in absurd (cc)

  -- a volume that had failed answers so, and nothing is done
  pub dead-of : {T : Type 0} (e : RtRefusal) → AnswersRt {T = T} disk (Err e) old new → has_failed old ≡ true
      → (e ≡ rt.Failed) × (rt_disk disk new ≡ rt_disk disk old)
  dead-of {T = T} e a failed = (same (a.failed.1 failed), a.untouched failed)
    where
      same : as-err {T = T} e ≡ as-err rt.Failed → e ≡ rt.Failed
      same is = cc

  pub deletes : (name : List ℕ) (most : ℕ) (result : Result Unit RtRefusal) → AnswersRt disk result old new →
      Went (KeepsFiles (rt_disk disk old)) (rt_disk disk old) (rt_disk disk new) most (faults_in result) →
      OnOk result (IsSoundDisk (rt_disk disk old) → DeletesFile name (rt_disk disk old).image (rt_disk disk new).image) →
      OnOk result (DeletesRtFile disk name old new)
  deletes name most (Ok x) a w made = record {
    fares = fares-of (KeepsFiles (rt_disk disk old)) (files-front (rt_disk disk old)) most (Ok x) a w;
    sound = λ s. record { honest = w.honest ∙ s.honest; accepted = (made s).accepted };
    gone = λ s. deleted-gone name (rt_disk disk old).image (rt_disk disk new).image (made s);
    emptied = λ s. record { file = (made s).file; store_is = (made s).store_is };
  }
  deletes name most (Err e) a w made = tt

  pub refused-of : {T : Type 0} (P : Image → Type 0)
      → (IsSoundDisk (rt_disk disk old) → (image : Image) → P image → KeepsFront (rt_disk disk old).image image)
      → (most few : ℕ) (e : RtRefusal) → AnswersRt {T = T} disk (Err e) old new →
      Went P (rt_disk disk old) (rt_disk disk new) most (faults_in (as-err {T = T} e)) →
      (is_fault e ≡ false → Looked (rt_disk disk old) (rt_disk disk new) few 0) → Refused disk e old new
  refused-of P keeps most few e a w kept = record {
    fares = fares-of P keeps most (Err e) a w;
    stays = λ none. (kept none).image;
    alive = unfailed-of e a;
  }

  pub makes : (name : List ℕ) (blocks day : ℕ) (most : ℕ) (result : Result Unit RtRefusal) → IsRtName name
      → blocks ≤ 65535 → AnswersRt disk result old new →
      Went (KeepsFiles (rt_disk disk old)) (rt_disk disk old) (rt_disk disk new) most (faults_in result) →
      OnOk result (IsSoundDisk (rt_disk disk old) → CreatesFile name blocks day (rt_disk disk old).image (rt_disk disk new).image) →
      OnOk result (Makes disk name blocks day old new)
  makes name blocks day most (Ok x) named few a w made = record {
    fares = fares-of (KeepsFiles (rt_disk disk old)) (files-front (rt_disk disk old)) most (Ok x) a w;
    alive = alive-of x a;
    few = few;
    sound = λ s. record { honest = w.honest ∙ s.honest; accepted = (made s).accepted };
    made = λ s. created-made name blocks day (rt_disk disk old).image (rt_disk disk new).image named (made s);
    lies = λ s. record {
      area = (made s).area;
      directory = same-directory
          (with_new_file (rt_store disk old) (made s).area.place (made s).area.i (made s).area.segment name blocks day) (rt_store disk new)
          (made s).store_is;
    };
  }
  makes name blocks day most (Err e) named few a w made = tt

  pub puts : (name : List ℕ) (place : ℕ) (block : List ℕ) (most : ℕ) (result : Result Unit RtRefusal) →
      AnswersRt disk result old new →
      Went (HasBlockWritten name place block (rt_disk disk old)) (rt_disk disk old) (rt_disk disk new) most (faults_in result) →
      OnOk result (HasBlockWritten name place block (rt_disk disk old) (rt_disk disk new).image) →
      OnOk result (Puts disk name place (block ∷ []) old new)
  puts name place block most (Ok x) a w written = record {
    fares = fares-of (HasBlockWritten name place block (rt_disk disk old)) (block-front name place block (rt_disk disk old)) most (Ok x) a
        w;
    sound = λ s. record { honest = w.honest ∙ s.honest; accepted = (written s).accepted };
    replaced = λ s. (
      rt_store disk new,
      written-replaced name place block (rt_disk disk old).image (rt_disk disk new).image s.accepted (written s),
      refl,
    );
    directory = λ s.
        block-written (rt_store disk old) (rt_store disk new) ((file_area (written s).file).start + place) block (written s).store_is;
  }
  puts name place block most (Err e) a w written = tt

  -- no file is made of so many blocks, since there may be files of so many
  fails-as : (name : List ℕ) (blocks : ℕ) (e : RtRefusal) → blocks ≤ 65535 → FailsToCreate e name blocks (rt_disk disk old)
      → FailsToMake e name blocks (rt_disk disk old)
  fails-as name blocks e few why =
      subst (λ b. FailsToMakeIf b e name blocks (rt_disk disk old)) (sym (le-ltb 65535 blocks few)) why

  pub fails-making : (name : List ℕ) (blocks : ℕ) (most less : ℕ) (result : Result Unit RtRefusal) → blocks ≤ 65535 →
      AnswersRt disk result old new →
      Went (KeepsFiles (rt_disk disk old)) (rt_disk disk old) (rt_disk disk new) most (faults_in result) →
      IfErr result (λ e. FailsToCreate e name blocks (rt_disk disk old)) →
      (is_device_fault result ≡ false → OnErr result (Looked (rt_disk disk old) (rt_disk disk new) less 0)) →
      IfErr result (λ e. FailsMaking disk name blocks e old new)
  fails-making name blocks most less (Ok x) few a w why kept = tt
  fails-making name blocks most less (Err e) few a w why kept = record {
    refused = refused-of (KeepsFiles (rt_disk disk old)) (files-front (rt_disk disk old)) most less e a w kept;
    dead = dead-of e a;
    why = fails-as name blocks e few why;
  }

  -- on a sound volume a block that is refused is none of the file's
  past-of : (name : List ℕ) (place blocks : ℕ) (e : RtRefusal) → FailsToReach e name place (rt_disk disk old)
      → IsSoundDisk (rt_disk disk old) →
      e ≢ rt.Failed → is_fault e ≡ false → HasRtBlocks name blocks (rt_store disk old) → blocks ≤ place
  past-of name place blocks rt.Failed h s unfailed none has = absurd (unfailed refl)
  past-of name place blocks rt.NoSuchFile h s unfailed none has =
      let empty : has.file ∷ has.more ≡ [] = sym has.named ∙ no-file name (rt_store disk old) (h s) in absurd (cc)
  past-of name place blocks rt.EndOfFile h s unfailed none has =
      let first = file-first name (rt_store disk old) (h s).file in
      let same : has.file ∷ has.more ≡ file_area (h s).file ∷ first.more = sym has.named ∙ first.named in
      let file : length has.file.contents ≡ (file_area (h s).file).length =
      ap (λ (l : List Area). length (slice_index_or l 0 has.file).contents) same
      ∙ area-length (rt_store disk old) (h s).file.segment (h s).file.i in
      omega (arith, file, has.blocks_are, (h s).past)
  past-of name place blocks rt.DeviceFault h s unfailed none has = absurd (cc)
  past-of name place blocks rt.Protected h s unfailed none has = absurd h
  past-of name place blocks rt.DuplicateName h s unfailed none has = absurd h
  past-of name place blocks rt.NoSpace h s unfailed none has = absurd h
  past-of name place blocks rt.DirectoryFull h s unfailed none has = absurd h
  past-of name place blocks rt.NoMemory h s unfailed none has = absurd h

  pub fails-putting : (name : List ℕ) (place : ℕ) (block : List ℕ) (most few : ℕ) (result : Result Unit RtRefusal) →
      AnswersRt disk result old new →
      Went (HasBlockWritten name place block (rt_disk disk old)) (rt_disk disk old) (rt_disk disk new) most (faults_in result) →
      IfErr result (λ e. FailsToReach e name place (rt_disk disk old)) →
      (is_device_fault result ≡ false → OnErr result (Looked (rt_disk disk old) (rt_disk disk new) few 0)) →
      IfErr result (λ e. FailsPutting disk name place e old new)
  fails-putting name place block most few (Ok x) a w why kept = tt
  fails-putting name place block most few (Err e) a w why kept = record {
    refused =
        refused-of (HasBlockWritten name place block (rt_disk disk old)) (block-front name place block (rt_disk disk old)) most few e a w
        kept;
    past = λ s alive none blocks has. past-of name place blocks e why s (unfailed-of e a alive) none has;
  }

  -- on a sound volume a file that isn't deleted is protected
  protected-of : (name : List ℕ) (e : RtRefusal) → FailsToDelete e name (rt_disk disk old) → IsSoundDisk (rt_disk disk old) → e ≢ rt.Failed
      → is_fault e ≡ false →
      (file : Area) (more : List Area) → files_named name (rt_store disk old) ≡ file ∷ more → file.protected ≡ true
  protected-of name rt.Failed h s unfailed none file more is = absurd (unfailed refl)
  protected-of name rt.NoSuchFile h s unfailed none file more is =
      let empty : file ∷ more ≡ [] = sym is ∙ no-file name (rt_store disk old) (h s) in absurd (cc)
  protected-of name rt.Protected h s unfailed none file more is =
      let first = file-first name (rt_store disk old) (h s).file in
      let same : file ∷ more ≡ file_area (h s).file ∷ first.more = sym is ∙ first.named in
      ap (λ (l : List Area). (slice_index_or l 0 file).protected) same ∙ (h s).protected
  protected-of name rt.DeviceFault h s unfailed none file more is = absurd (cc)
  protected-of name rt.EndOfFile h s unfailed none file more is = absurd h
  protected-of name rt.DuplicateName h s unfailed none file more is = absurd h
  protected-of name rt.NoSpace h s unfailed none file more is = absurd h
  protected-of name rt.DirectoryFull h s unfailed none file more is = absurd h
  protected-of name rt.NoMemory h s unfailed none file more is = absurd h

  pub fails-deleting : (name : List ℕ) (most few : ℕ) (result : Result Unit RtRefusal) →
      AnswersRt disk result old new →
      Went (KeepsFiles (rt_disk disk old)) (rt_disk disk old) (rt_disk disk new) most (faults_in result) →
      IfErr result (λ e. FailsToDelete e name (rt_disk disk old)) →
      (is_device_fault result ≡ false → OnErr result (Looked (rt_disk disk old) (rt_disk disk new) few 0)) →
      IfErr result (λ e. FailsDeleting disk name e old new)
  fails-deleting name most few (Ok x) a w why kept = tt
  fails-deleting name most few (Err e) a w why kept = record {
    refused = refused-of (KeepsFiles (rt_disk disk old)) (files-front (rt_disk disk old)) most few e a w kept;
    protected = λ s alive none file more is. protected-of name e why s (unfailed-of e a alive) none file more is;
  }
