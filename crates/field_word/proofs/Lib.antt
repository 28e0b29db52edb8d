mod Euclid
