-- What reading a file tells of an RT-11 volume.
use Rattle.std.proofs.Common.{◌≡◌, ◌≢◌, ℕ, ◌<◌, ◌≤◌, false, if◌then◌else◌, List, [], ◌∷◌, All, length, slice_index_or, Result, Ok, Err}
use Rattle.std.proofs.Common.{OnOk, IfErr, refl, sym, ◌∙◌, ap, subst, arith}
use Rattle.std.specs.List.{slice_get}
use Rattle.f11_dev.specs.Disk.{Disk}
use Rattle.f11_dev.specs.Image.{IsImage}
use Rattle.f11_dev.specs.Looked.{Looked}
use Rattle.f11_dev.specs.declared.device.Device.{Ghosts}
use Rattle.rt11_volume.specs.Calls.{AnswersRt}
use Rattle.rt11_volume.specs.Files.{FailsToFindFile, FailsToReach, HasBlock, HasFile, IsFileAt, faults_in, file_area}
use Rattle.rt11_volume.specs.Files.{is_device_fault, is_fault}
use Rattle.rt11_volume.specs.Store.{Area, RtStore}
use Rattle.rt11_volume.specs.Verifying.Verdict.{IsSoundDisk}
use Rattle.rt11_volume.specs.declared.refusal.RtRefusal.{RtRefusal}
use Rattle.rt11_volume.specs.declared.refusal.RtRefusal.TheVariants as rt
use Rattle.rt11_volume.specs.declared.volume.RtAccepted.{RtAccepted}
use Rattle.rt11_volume.proofs.Named.Laws.{file-first, no-file}
use Rattle.rt11_volume.proofs.Verifying.Sound.{sound_from}
use Rattle.f11_flx.specs.RtSource.{FailsToReadPlace, FindsRtFile, FindsNoRtFile, HasContents, Looks, ReadsPlace}
use Rattle.f11_flx.specs.Target.{rt_disk, rt_store}
use Rattle.f11_flx.proofs.RtFiles.RtBlockLemmas.{contents-whole}
use Rattle.f11_flx.proofs.RtFiles.FrontLemmas.{front-same}
use Rattle.f11_flx.proofs.RtFiles.TargetLemmas.{alive-of, area-length, as-err, dead-of, unfailed-of}

-- the file of a name is one
pub area-is : (name : List ℕ) (t : RtStore) (f g : HasFile name t) → file_area f ≡ file_area g
area-is name t f g =
    let a = file-first name t f in
    let b = file-first name t g in
    let same : file_area f ∷ a.more ≡ file_area g ∷ b.more = sym a.named ∙ b.named in
    ap (λ (l : List Area). slice_index_or l 0 (file_area f)) same

pub contents-are : (name : List ℕ) (t : RtStore) (f : HasFile name t) (contents : List (List ℕ)) → HasContents name contents t
    → contents ≡ (file_area f).contents
contents-are name t f contents h = sym h.contents ∙ ap (λ (a : Area). a.contents) (area-is name t h.file f)

module _ {E : Type 0} {met : Ghosts E} (disk : E → Disk) where
  pub looks-of : {T : Type 0} (most : ℕ) (result : Result T RtRefusal) (old new : RtAccepted E met) → AnswersRt disk result old new →
      Looked (rt_disk disk old) (rt_disk disk new) most (faults_in result) → Looks disk (is_device_fault result) old new
  looks-of most result old new a w = record {
    fares = record {
      failures = w.failures;
      quiet = λ fault. w.quiet (subst (λ b. 0 < (if b then 1 else 0)) (sym fault) (omega arith));
      honest = w.honest;
      next = a.next;
      front = λ s. front-same (rt_disk disk old) (rt_disk disk new) w.image w.history;
    };
    image = w.image;
    history = w.history;
  }

  pub finds-file : (name : List ℕ) (most start blocks : ℕ) (old new : RtAccepted E met)
      → AnswersRt {T = ℕ × ℕ} disk (Ok (start, blocks)) old new →
      Looked (rt_disk disk old) (rt_disk disk new) most 0
      → (IsSoundDisk (rt_disk disk old) → IsFileAt name (rt_store disk old) start blocks) →
      IsImage (rt_disk disk old).image → FindsRtFile disk name blocks old new
  finds-file name most start blocks old new a w found is = record {
    looks = looks-of most (Ok (start, blocks)) old new a w;
    alive = alive-of disk old new (start, blocks) a;
    file = λ s. (found s).file;
    length_is = λ s contents h.
        let f = (found s).file in
        ap (λ (l : List (List ℕ)). length l) (contents-are name (rt_store disk old) f contents h)
        ∙ area-length (rt_store disk old) f.segment f.i ∙ sym (found s).length_is;
    whole = λ s contents h. subst (All (λ b. length b ≡ 512)) h.contents
        (contents-whole name (rt_disk disk old).image h.file is (sound_from (rt_disk disk old).image s.accepted));
  }

  pub reads-place : (name : List ℕ) (place most : ℕ) (block : List ℕ) (result : Result Unit RtRefusal) (old new : RtAccepted E met)
      → length block ≡ 512 →
      AnswersRt disk result old new → Looked (rt_disk disk old) (rt_disk disk new) most (faults_in result) →
      OnOk result (IsSoundDisk (rt_disk disk old) → HasBlock name (rt_store disk old) place block) →
      OnOk result (ReadsPlace disk name place block old new)
  reads-place name place most block (Ok x) old new size a w read = record {
    looks = looks-of most (Ok x) old new a w;
    size = size;
    is = λ s contents h. ap (λ (l : List (List ℕ)). slice_get l place) (contents-are name (rt_store disk old) (read s).file contents h)
        ∙ (read s).block_is;
  }
  reads-place name place most block (Err e) old new size a w read = tt

  past-of : (name : List ℕ) (place : ℕ) (e : RtRefusal) (old : RtAccepted E met) → FailsToReach e name place (rt_disk disk old)
      → IsSoundDisk (rt_disk disk old) →
      e ≢ rt.Failed → is_fault e ≡ false → (contents : List (List ℕ)) → HasContents name contents (rt_store disk old)
      → length contents ≤ place
  past-of name place rt.Failed old h s unfailed none contents has = absurd (unfailed refl)
  past-of name place rt.NoSuchFile old h s unfailed none contents has =
      let first = file-first name (rt_store disk old) has.file in
      let empty : file_area has.file ∷ first.more ≡ [] = sym first.named ∙ no-file name (rt_store disk old) (h s) in absurd (cc)
  past-of name place rt.EndOfFile old h s unfailed none contents has =
      let f = (h s).file in
      let is = ap (λ (l : List (List ℕ)). length l) (contents-are name (rt_store disk old) f contents has)
      ∙ area-length (rt_store disk old) f.segment f.i in
      omega (arith, is, (h s).past)
  past-of name place rt.DeviceFault old h s unfailed none contents has = absurd (cc)
  past-of name place rt.Protected old h s unfailed none contents has = absurd h
  past-of name place rt.DuplicateName old h s unfailed none contents has = absurd h
  past-of name place rt.NoSpace old h s unfailed none contents has = absurd h
  past-of name place rt.DirectoryFull old h s unfailed none contents has = absurd h
  past-of name place rt.NoMemory old h s unfailed none contents has = absurd h

  pub fails-to-read-place : (name : List ℕ) (place most : ℕ) (result : Result Unit RtRefusal) (old new : RtAccepted E met) →
      AnswersRt disk result old new → Looked (rt_disk disk old) (rt_disk disk new) most (faults_in result) →
      IfErr result (λ e. FailsToReach e name place (rt_disk disk old)) → IfErr result (λ e. FailsToReadPlace disk name place e old new)
  fails-to-read-place name place most (Ok x) old new a w why = tt
  fails-to-read-place name place most (Err e) old new a w why = record {
    looks = looks-of most (as-err {T = Unit} e) old new a w;
    alive = unfailed-of disk old new {T = Unit} e a;
    past = λ alive none s contents h. past-of name place e old why s (unfailed-of disk old new {T = Unit} e a alive) none contents h;
  }

  pub finds-no-file : (name : List ℕ) (most : ℕ) (e : RtRefusal) (old new : RtAccepted E met) → AnswersRt {T = ℕ × ℕ} disk (Err e) old new →
      Looked (rt_disk disk old) (rt_disk disk new) most (faults_in (as-err {T = ℕ × ℕ} e)) → FailsToFindFile e name (rt_disk disk old)
      → FindsNoRtFile disk name e old new
  finds-no-file name most e old new a w why = record {
    looks = looks-of most (as-err {T = ℕ × ℕ} e) old new a w;
    alive = unfailed-of disk old new {T = ℕ × ℕ} e a;
    dead = dead-of disk old new {T = ℕ × ℕ} e a;
    why = why;
  }
