-- What stands in a store in memory at a path.
use Rattle.std.proofs.Common.{◌≡◌, ℕ, List, [], ◌∷◌, refl, Some, cond, true, false, slice_index_or}
use Rattle.std.specs.Prelude.{option_map, bytes_eq}
use Rattle.std.proofs.lemmas.List.Quantifiers.{position-Some}
use Rattle.std.proofs.lemmas.Slice.Eq.{bytes_eq-Decides}
use Rattle.io_edge.specs.Memory.{FileState, OutputState, path_map, file_at, output_at}
use Rattle.io_edge.specs.Paths.{bytes_at}

-- the map of a store has the bytes of the first file at a path
pub bytes_at_file_at : (files : List FileState) (path : List ℕ) → bytes_at (path_map files) path ≡ option_map (λ (file : FileState). file.bytes) (file_at files path)
bytes_at_file_at [] path = refl
bytes_at_file_at (file ∷ files) path =
    elim (bytes_eq file.path path) as (λ b. cond b (Some file.bytes) (bytes_at (path_map files) path) ≡ option_map (λ (f : FileState). f.bytes) (cond b (Some file) (file_at files path)))
    [ true ↦ refl | false ↦ bytes_at_file_at files path ]

-- a sink that was found waits for the path that was asked for
pub output_found : (outputs : List OutputState) (path : List ℕ) (place : ℕ) (d : OutputState) → output_at outputs path ≡ Some place → (slice_index_or outputs place d).path ≡ path
output_found outputs path place d found =
    let here = position-Some (λ (output : OutputState). bytes_eq output.path path) outputs place d found in
    (bytes_eq-Decides _ _).0 here.1
