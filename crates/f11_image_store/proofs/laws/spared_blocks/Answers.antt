use Rattle.f11_image_store.proofs.SparedLemmas.{behind-spared, boot-spared, control-spared, file-spared, home-spared, unnamed-spared}
use Rattle.f11_image_store.proofs.laws.spared_blocks.Goals as goal

pub returns : goal.returns
returns c = record {
  boot = boot-spared;
  home = home-spared;
  control = λ image home lbn is. control-spared image home is lbn;
  file = λ image home f i lbn is. file-spared image home is f i lbn;
  unnamed = λ image home lbn is. unnamed-spared image home is lbn;
  behind = λ image home lbn is. behind-spared image home is lbn;
}
