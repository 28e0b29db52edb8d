-- What a source and a sink over the traits of std consist of.
use Rattle.std.specs.Prelude.{ℕ}
use Rattle.outside_io.specs.declared.standard.StdSource.{StdSource}
use Rattle.outside_io.specs.declared.standard.StdSink.{StdSink}

-- the reader of a source
abbrev pub source_reader : {R : Type 0} → StdSource R → R
source_reader source = source.inner

-- how often the reads of a source have failed
abbrev pub source_faults : {R : Type 0} → StdSource R → ℕ
source_faults source = source.faults

-- the writer of a sink
abbrev pub sink_writer : {W : Type 0} → StdSink W → W
sink_writer sink = sink.inner

-- how often the writes and flushes of a sink have failed
abbrev pub sink_faults : {W : Type 0} → StdSink W → ℕ
sink_faults sink = sink.faults
