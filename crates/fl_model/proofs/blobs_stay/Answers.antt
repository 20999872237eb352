use Rattle.fl_model.proofs.BlobsStay.{blobs-sealed}
use Rattle.fl_model.proofs.BlobsJoined.{blobs-joined, blobs-given_up, blobs-lost}
use Rattle.fl_model.proofs.blobs_stay.Goals as goal

pub returns : goal.returns
returns c = record { joined = blobs-joined; sealed = blobs-sealed; given_up = blobs-given_up; lost = blobs-lost }
