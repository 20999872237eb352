-- An end of a job that counted nothing.
use Rattle.std.specs.Prelude.{None}
use Rattle.fl_import.specs.declared.job_end.JobEnd.{JobEnd}
use Rattle.fl_import.specs.declared.job_end.LinesTaken.{LinesTaken}
use Rattle.fl_image.specs.declared.status.ToolStatus.{ToolStatus}

-- no line was taken
abbrev pub none_taken : LinesTaken
none_taken = record { line = 0; rows = 0; gone = 0 }

abbrev pub end_of : ToolStatus → JobEnd
end_of status = record { status = status; kept = None; taken = none_taken; form = None }
