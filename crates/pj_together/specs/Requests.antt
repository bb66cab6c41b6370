-- Requests with workers.
use Rattle.std.specs.Prelude.{ℕ}
use Rattle.pj_words.specs.declared.request.Request.{Request}
use Rattle.pj_words.specs.declared.request.Request.TheVariants.{Run, Replay, Check, Make}

-- how many workers look for partners beside the threads that read and the one that writes; none where all is done on one thread
abbrev pub workers_of : Request → ℕ
workers_of (Run plan files workers sorted trace check limit) = workers
workers_of (Replay plan script files trace limit) = 0
workers_of (Check plan print) = 0
workers_of (Make seed count) = 0
