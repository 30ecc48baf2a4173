mod NoDoor
