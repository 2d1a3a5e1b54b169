-- Blocks of a file on an RT-11 volume, written one after another.
use Rattle.std.proofs.Common.{◌≡◌, ℕ, suc, ◌+◌, ◌<◌, ◌||◌, if◌then◌else◌, Bool, false, List, [], ◌∷◌, ◌++◌, length, take, drop, slice_set}
use Rattle.std.proofs.Common.{refl, sym, ap, ◌∙◌, subst, append_assoc, append-nil, length-set, arith}
use Rattle.std.specs.List.{concat}
use Rattle.std.proofs.Math.Seq.{take-add}
use Rattle.std.proofs.lemmas.List.{drop-set, take_all, take-set}
use Rattle.f11_dev.specs.Disk.{Disk}
use Rattle.f11_dev.specs.declared.device.Device.{Ghosts}
use Rattle.rt11_volume.specs.Calls.{has_failed}
use Rattle.rt11_volume.specs.Laws.{HasGone, HasMade, HasReplaced, KeepsOtherNames}
use Rattle.rt11_volume.specs.Named.{files_named}
use Rattle.rt11_volume.specs.Operations.{with_new_file}
use Rattle.rt11_volume.specs.Store.{Area, RtStore}
use Rattle.rt11_volume.specs.Verifying.Verdict.{IsSoundDisk}
use Rattle.rt11_volume.specs.declared.volume.RtAccepted.{RtAccepted}
use Rattle.f11_flx.specs.CopyToRt.{HasCopy, HasSameDirectory, LiesInFirstArea}
use Rattle.f11_flx.specs.Filling.{Took}
use Rattle.f11_flx.specs.Target.{Fares, HasRtBlocks, Puts, ReplacesRtBlocks, rt_disk, rt_store}
use Rattle.f11_flx.specs.ToRt.{rt_takes}
use Rattle.f11_flx.proofs.RtFiles.FrontLemmas.{front-same, front-then}
use Rattle.f11_flx.proofs.SmallLemmas.{or-false}

-- What stands then in the file's contents, of which blocks were replaced from a place on.
pub record HasWritten (name : List ℕ) (k : ℕ) (pieces : List (List ℕ)) (file : Area) (more : List Area) (t t' : RtStore) : Type 0 where
  pub contents : List (List ℕ)
  pub is : files_named name t' ≡ record file { contents = contents } ∷ more
  pub size : length contents ≡ length file.contents
  pub begins : take (k + length pieces) contents ≡ take k file.contents ++ pieces
  pub others : KeepsOtherNames name t t'

-- the first ones, where the one behind them is replaced
take-one-more : (k : ℕ) (b : List ℕ) (c : List (List ℕ)) → k < length c → take (suc k) (slice_set c k b) ≡ take k c ++ b ∷ []
take-one-more k b c less =
    let count : suc k ≡ k + 1 = omega arith in
    ap (λ n. take n (slice_set c k b)) count ∙ take-add k 1 (slice_set c k b)
    ∙ ap (λ (l : List (List ℕ)). l ++ take 1 (drop k (slice_set c k b))) (take-set c k b)
    ∙ ap (λ (l : List (List ℕ)). take k c ++ take 1 l) (drop-set c k b less)

pub has-written : (name : List ℕ) (k : ℕ) (pieces : List (List ℕ)) (file : Area) (more : List Area) (t t' : RtStore) →
    files_named name t ≡ file ∷ more → ReplacesRtBlocks name k pieces t t' → HasWritten name k pieces file more t t'
has-written name k [] file more t t' was h = record {
  contents = file.contents;
  is = ap (files_named name) h ∙ was;
  size = refl;
  begins = ap (λ n. take n file.contents) (omega arith) ∙ sym (append-nil (take k file.contents));
  others = λ other apart. ap (files_named other) h;
}
has-written name k (b ∷ pieces) file more t t' was h =
    let one = h.1 in
    let same : file ∷ more ≡ one.file ∷ one.more = sym was ∙ one.was in
    let same-file : file ≡ one.file = cc in
    let same-more : more ≡ one.more = cc in
    let next : Area = record file { contents = slice_set file.contents k b } in
    let now : files_named name h.0 ≡ next ∷ more =
    one.is ∙ ap (λ (f : Area). record f { contents = slice_set f.contents k b } ∷ one.more) (sym same-file)
    ∙ ap (λ (l : List Area). next ∷ l) (sym same-more) in
    let inside : k < length file.contents = subst (λ (f : Area). k < length f.contents) (sym same-file) one.inside in
    let rest = has-written name (suc k) pieces next more h.0 t' now h.2 in
    record {
      contents = rest.contents;
      is = rest.is;
      size = rest.size ∙ length-set file.contents k b;
      begins =
          ap (λ n. take n rest.contents) (omega arith) ∙ rest.begins
          ∙ ap (λ (l : List (List ℕ)). l ++ pieces) (take-one-more k b file.contents inside)
          ∙ append_assoc (take k file.contents) (b ∷ []) pieces;
      others = λ other apart. rest.others other apart ∙ one.others other apart;
    }

directory-then : (t u v : RtStore) → HasSameDirectory t u → HasSameDirectory u v → HasSameDirectory t v
directory-then t u v h k = k ∙ ap (λ (x : RtStore). record x { block = v.block }) h

-- a file whose blocks are written lies where it lay
pub still-lies : (name : List ℕ) (count day : ℕ) (t u v : RtStore) → LiesInFirstArea name count day t u → HasSameDirectory u v
    → LiesInFirstArea name count day t v
still-lies name count day t u v h k = record {
  area = h.area;
  directory = directory-then (with_new_file t h.area.place h.area.i h.area.segment name count day) u v h.directory k;
}

module _ (name : List ℕ) (count day : ℕ) (pieces : List (List ℕ)) (t t1 t2 : RtStore) (made : HasMade name count day t t1)
    (puts : ReplacesRtBlocks name 0 pieces t1 t2) where
  written : HasWritten name 0 pieces made.file [] t1 t2
  written = has-written name 0 pieces made.file [] t1 t2 made.one puts

  pub has-copy : LiesInFirstArea name count day t t1 → HasSameDirectory t1 t2 → length pieces ≡ count
      → HasCopy name (concat pieces) count day t t2
  has-copy lies same size =
      let w = written in
      let all : w.contents ≡ pieces = sym (take_all (0 + length pieces) w.contents (omega (arith, w.size, made.blocks_are, size)))
      ∙ w.begins in
      record {
        file = record made.file { contents = w.contents };
        none = made.none;
        one = w.is;
        blocks_are = w.size ∙ made.blocks_are;
        content_is = ap concat all;
        date_is = made.date_is;
        unprotected = made.unprotected;
        others = λ other apart. w.others other apart ∙ made.others other apart;
        lies = still-lies name count day t t1 t2 lies same;
      }

  pub has-made : HasMade name count day t t2
  has-made =
      let w = written in
      record {
        file = record made.file { contents = w.contents };
        none = made.none;
        one = w.is;
        blocks_are = w.size ∙ made.blocks_are;
        date_is = made.date_is;
        unprotected = made.unprotected;
        others = λ other apart. w.others other apart ∙ made.others other apart;
      }

  pub has-places : HasRtBlocks name count t2
  has-places =
      let w = written in record {
        file = record made.file { contents = w.contents };
        more = [];
        named = w.is;
        blocks_are = w.size
            ∙ made.blocks_are;
      }

  pub has-gone : (t3 : RtStore) → HasGone name t2 t3 → (files_named name t3 ≡ files_named name t) × KeepsOtherNames name t t3
  has-gone t3 gone =
      let w = written in
      let same : gone.file ∷ files_named name t3 ≡ record made.file { contents = w.contents } ∷ [] = sym gone.was ∙ w.is in
      let none : files_named name t3 ≡ [] = cc in
      (none ∙ sym made.none, λ other apart. gone.others other apart ∙ (w.others other apart ∙ made.others other apart))

module _ {E : Type 0} {met : Ghosts E} (disk : E → Disk) where
  pub fares-none : (v : RtAccepted E met) → Fares disk false v v
  fares-none v = record {
    failures = omega arith;
    quiet = λ h. absurd (cc);
    honest = refl;
    next = sym (or-false (has_failed v));
    front = λ s. front-same (rt_disk disk v) (rt_disk disk v) refl refl;
  }

  pub fares-then : (b : Bool) (u v w : RtAccepted E met) → (IsSoundDisk (rt_disk disk u) → IsSoundDisk (rt_disk disk v))
      → Fares disk false u v → Fares disk b v w → Fares disk b u w
  fares-then b u v w sound f g = record {
    failures = g.failures ∙ ap (λ n. n + (if b then 1 else 0)) (omega (arith, f.failures));
    quiet = g.quiet;
    honest = g.honest ∙ f.honest;
    next = g.next ∙ ap (λ (x : Bool). x || b) (f.next ∙ or-false (has_failed u));
    front = λ s. front-then (rt_disk disk u) (rt_disk disk v) (rt_disk disk w) (f.front s) (g.front (sound s));
  }

  pub took-puts : (name : List ℕ) (place : ℕ) (pieces : List (List ℕ)) (old new : RtAccepted E met)
      → Took (rt_takes disk) name place pieces old new → Puts disk name place pieces old new
  took-puts name place [] old new h = record {
    fares = subst (λ v. Fares disk false old v) (sym h) (fares-none old);
    sound = λ s. subst (λ (v : RtAccepted E met). IsSoundDisk (rt_disk disk v)) (sym h) s;
    replaced = λ s. ap (rt_store disk) h;
    directory = λ s. subst (λ (v : RtAccepted E met). HasSameDirectory (rt_store disk old) (rt_store disk v)) (sym h) refl;
  }
  took-puts name place (b ∷ pieces) old new h =
      let one = h.1 in
      let rest = took-puts name (suc place) pieces h.0 new h.2 in
      record {
        fares = fares-then false old h.0 new one.sound one.fares rest.fares;
        sound = λ s. rest.sound (one.sound s);
        replaced = λ s.
            let r = one.replaced s in (
              rt_store disk h.0,
              subst (λ (t : RtStore). HasReplaced name place b (rt_store disk old) t) (sym r.2) r.1,
              rest.replaced (one.sound s),
            );
        directory = λ s. directory-then (rt_store disk old) (rt_store disk h.0) (rt_store disk new) (one.directory s)
            (rest.directory (one.sound s));
      }
