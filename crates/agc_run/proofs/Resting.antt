-- The requests of a bench or a script, without their sources.
use Rattle.std.proofs.Common.{◌≡◌, List, [], ◌∷◌, ◌++◌, refl, sym, ap, ◌∙◌}
use Rattle.std.specs.List.{flat_map}
use Rattle.std.proofs.lemmas.List.{map-append}
use Rattle.std.proofs.lemmas.List.Concat.{flat_map-cons}
use Rattle.std.specs.Prelude.{map}
use Rattle.agc_document.specs.Benches.{Benched}
use Rattle.agc_plan.specs.declared.request.Request.{Request}
use Rattle.agc_session.proofs.Pieces.{by_source, piece_requests, pieces_ask}
use Rattle.agc_session.specs.Pieces.{Piece, asks_in, bench_pieces}
use Rattle.agc_session.specs.Runs.{bench_requests}
use Rattle.agc_session.specs.declared.source.PendingRequest.{PendingRequest}
use Rattle.agc_session.specs.declared.source.Source.{Source}
use Rattle.agc_run.specs.Runs.{requests_in}

-- the requests of what a source asks for
pub source_asked : (source : Source) (requests : List Request) → requests_in (map (by_source source) requests) ≡ requests
source_asked source [] = refl
source_asked source (q ∷ qs) = ap (λ (all : List Request). q ∷ all) (source_asked source qs)

pieces_asked : (pieces : List Piece) → requests_in (flat_map asks_in pieces) ≡ flat_map piece_requests pieces
pieces_asked [] = refl
pieces_asked (piece ∷ pieces) =
    ap requests_in (flat_map-cons asks_in piece pieces)
    ∙ map-append (λ (asked : PendingRequest). asked.request) (asks_in piece) (flat_map asks_in pieces)
    ∙ ap (λ (qs : List Request). qs ++ requests_in (flat_map asks_in pieces)) (source_asked piece.source piece.requests)
    ∙ ap (λ (qs : List Request). piece.requests ++ qs) (pieces_asked pieces)
    ∙ sym (flat_map-cons piece_requests piece pieces)

-- and of what is asked in a bench
pub bench_asked : (bench : Benched) → requests_in (flat_map asks_in (bench_pieces bench)) ≡ bench_requests bench
bench_asked bench = pieces_asked (bench_pieces bench) ∙ pieces_ask bench
