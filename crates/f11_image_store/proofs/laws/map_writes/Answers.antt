use Rattle.f11_image_store.proofs.StepLemmas.{names-more, links-on, may-end}
use Rattle.f11_image_store.proofs.laws.map_writes.Goals as goal

pub returns : goal.returns
returns c = record {
  names = λ image home f n block more lbn count is late. names-more image home f n block is late more lbn count;
  links = λ image home f n m block is late. links-on image home f n block is late m;
  ends = λ image home f n block left is late. may-end image home f n block is late left;
}
